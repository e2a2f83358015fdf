use Rattle.std.proofs.Common.{◌≡◌, length, map, ap, sym, subst, ◌∙◌, arith}
use Rattle.std.specs.Vec.{vec_len}
use Rattle.std.proofs.lemmas.List.{length-map}
use Rattle.std.proofs.lemmas.Result.{err_from_is_err_and}
use Rattle.je_core.specs.View.{class_view, program_view}
use Rattle.je_scopes.specs.Source.{Source}
use Rattle.je_typing.specs.Answers.{IsFault}
use Rattle.class_heads.specs.Headers.{class_heads}
use Rattle.class_heads.specs.View.{behind}
use Rattle.class_typing.specs.Programs.{heads, library_count, number}
use Rattle.declarations.specs.View.{class_shown}
use Rattle.library_classes.specs.Library.{all_due}
use Rattle.library_classes.specs.Numbers.{number_in}
use Rattle.library_declarations.specs.Library.{library_declared}
use Rattle.name_sites.specs.View.{source_of}
use Rattle.type_faults.specs.Program.{source_in}
use Rattle.type_decl.specs.way.Halves.{code}
use Rattle.type_decl.proofs.Order.{elaborated_faults, elaborated_gives}
use Rattle.type_decl.proofs.elaborating.elaborate.Goals as goal

pub guests-requires-clause-ground : goal.guests-requires-clause-ground
unfolding heads
guests-requires-clause-ground c =
    let many : vec_len c.in_ok-library.library ≡ length c.in_ok-library.library.items = omega (arith, c.in_ok-library.library.ok) in
    let count : c.len.result ≡ library_count (source_of c.args.sites.now) =
    c.len.ensures ∙ many ∙ sym (length-map c.in_ok-library.library.items class_shown) ∙ ap length (c.in_ok-library.ensures ∙ ap (λ ts. library_declared (number_in ts)) c.requires.names) in
    record {
      heads_are = c.in_ok-heads.ensures
          ∙ ap class_heads
          (ap (λ ls. behind (map class_shown ls) (map class_shown c.add_enum_methods.new.classes)) c.deref.ensures.value
          ∙ ap (λ ds. behind ds (map class_shown c.add_enum_methods.new.classes)) (c.in_ok-library.ensures ∙ ap (λ ts. library_declared (number_in ts)) c.requires.names)
          ∙ c.in_ok-add_enum_methods.ensures.all (source_of c.args.sites.now) (sym c.requires.names) count c.requires.classes)
          ∙ ap heads (sym c.new.ensures);
      library_is = ap (map class_shown) c.deref-2.ensures.value ∙ (c.in_ok-library.ensures ∙ ap (λ ts. library_declared (number_in ts)) c.requires.names)
          ∙ ap (λ (s : Source). library_declared (number s)) (sym c.new.ensures);
    }

pub returns-in_err-guests-clause-err : goal.returns-in_err-guests-clause-err
returns-in_err-guests-clause-err c =
    let p = err_from_is_err_and c.from_residual-in_err-guests.result c.from_residual-in_err-guests.ensures.1 in
    rw (p.1, p.2)
    (elaborated_faults (source_of c.args.sites.now) c.in_err-guests.field-0.0
    (subst (λ (s : Source). IsFault (code s) c.in_err-guests.field-0.0) c.new.ensures c.in_err-guests.ensures.err))

pub returns-clause-ok : goal.returns-clause-ok
returns-clause-ok c =
    elaborated_gives (source_of c.args.sites.now) (map class_view c.in_ok-guests.guests.items) (program_view c.in_ok-program.program)
    (ap code (sym c.new.ensures) ∙ c.in_ok-guests.ensures.ok)
    (c.in_ok-program.ensures (source_of c.args.sites.now) (c.in_ok-core.ensures ∙ ap (λ ts. all_due (number_in ts)) c.requires.names))
