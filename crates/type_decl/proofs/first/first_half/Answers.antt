use Rattle.std.proofs.Common.{◌≡◌, ℕ, [], length, map, ap, subst, ◌∙◌}
use Rattle.std.specs.Prelude.{slice_index}
use Rattle.je_scopes.specs.Source.{Source}
use Rattle.class_heads.specs.View.{behind}
use Rattle.class_typing.specs.Programs.{with_hidden}
use Rattle.declarations.specs.View.{class_shown}
use Rattle.type_faults.specs.Program.{source_in}
use Rattle.type_decl.specs.way.Halves.{AreFieldsOf}
use Rattle.type_decl.proofs.Beginning.{hidden_counted}
use Rattle.type_decl.proofs.first.first_half.Goals as goal

pub begin-requires-clause-fields : goal.begin-requires-clause-fields
begin-requires-clause-fields c = subst (λ (s : Source). AreFieldsOf s (λ d. []) c.in_ok-fields.fields) c.requires.sites c.in_ok-fields.ensures

pub walk-requires-clause-fields : goal.walk-requires-clause-fields
walk-requires-clause-fields c = subst (λ (s : Source). AreFieldsOf s (λ d. []) c.in_ok-fields.fields) c.requires.sites c.in_ok-fields.ensures

pub judge-requires-clause-classes : goal.judge-requires-clause-classes
judge-requires-clause-classes c =
    let are = subst (λ (s : Source). AreFieldsOf s (λ d. []) c.in_ok-fields.fields) c.requires.sites c.in_ok-fields.ensures in
    ap (behind (map class_shown c.args.ground.now.library.now))
    (c.remove_hidden_fields.ensures.inverse (source_in c.args.ground.now.source) (λ d. []) (map class_shown c.args.declared.now)
    (λ d. ap (λ ns. slice_index ns d) c.deref.ensures.value
    ∙ hidden_counted (source_in c.args.ground.now.source) (λ e. []) c.in_ok-fields.fields.hidden.items are.hidden_are d)
    c.in_ok-add_hidden_fields.ensures.program)
    ∙ c.requires.classes

pub walk-requires-clause-classes : goal.walk-requires-clause-classes
walk-requires-clause-classes c =
    let are = subst (λ (s : Source). AreFieldsOf s (λ d. []) c.in_ok-fields.fields) c.requires.sites c.in_ok-fields.ensures in
    c.in_ok-add_hidden_fields-2.ensures.all (map class_shown c.args.ground.now.library.now) (ap length c.requires.ground.library_is)
    ∙ ap (with_hidden (source_in c.args.ground.now.source) (λ d. []) 0)
    (ap (behind (map class_shown c.args.ground.now.library.now))
    (c.remove_hidden_fields.ensures.inverse (source_in c.args.ground.now.source) (λ d. []) (map class_shown c.args.declared.now)
    (λ d. ap (λ ns. slice_index ns d) c.deref.ensures.value
    ∙ hidden_counted (source_in c.args.ground.now.source) (λ e. []) c.in_ok-fields.fields.hidden.items are.hidden_are d)
    c.in_ok-add_hidden_fields.ensures.program)
    ∙ c.requires.classes)

pub returns-clause-same : goal.returns-clause-same
returns-clause-same c =
    let are = subst (λ (s : Source). AreFieldsOf s (λ d. []) c.in_ok-fields.fields) c.requires.sites c.in_ok-fields.ensures in
    c.remove_hidden_fields-2.ensures.inverse (source_in c.args.ground.now.source) (λ d. []) (map class_shown c.remove_hidden_fields.new.classes)
    (λ d. ap (λ ns. slice_index ns d) c.deref-3.ensures.value
    ∙ hidden_counted (source_in c.args.ground.now.source) (λ e. []) c.in_ok-fields.fields.hidden.items are.hidden_are d)
    c.in_ok-add_hidden_fields-2.ensures.program
    ∙ c.remove_hidden_fields.ensures.inverse (source_in c.args.ground.now.source) (λ d. []) (map class_shown c.args.declared.now)
    (λ d. ap (λ ns. slice_index ns d) c.deref.ensures.value
    ∙ hidden_counted (source_in c.args.ground.now.source) (λ e. []) c.in_ok-fields.fields.hidden.items are.hidden_are d)
    c.in_ok-add_hidden_fields.ensures.program
