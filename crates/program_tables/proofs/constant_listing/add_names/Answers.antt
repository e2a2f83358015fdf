use Rattle.std.proofs.Common.{◌≡◌, ◌<◌, length, map, take, Option, ap, sym, ◌∙◌, arith}
use Rattle.std.specs.Prelude.{Bool, not, ◌&&◌, ◌||◌, is_some}
use Rattle.std.specs.List.{list_any}
use Rattle.je_classes.specs.Members.{Member}
use Rattle.je_scopes.specs.Source.{Source}
use Rattle.declarations.specs.View.{field_shown}
use Rattle.name_typing.specs.Fields.{fields_of, member}
use Rattle.name_typing.specs.Program.{Constant}
use Rattle.body_places.specs.Tables.{constant_at, constant_seen}
use Rattle.class_typing.specs.Elaboration.{has_name}
use Rattle.signature_steps.specs.View.{is_among}
use Rattle.program_tables.proofs.FirstFields.{next_field, count_taken, is_there, met_next, name_next, names_end}
use Rattle.program_tables.proofs.constant_listing.add_names.Goals as goal
use Rattle.program_tables.proofs.constant_listing.add_names.Goals.{then-not-was_met, else-not-was_met}

pub loop-at-preserved : goal.loop-at-preserved
loop-at-preserved c =
    let before = take c.loop-at.at (map field_shown c.fields_of-field-items.result.now) in
    let l : c.loop-at.at < length c.fields_of-field-items.result.now = omega arith in
    let next = next_field c.fields_of-field-items.result.now c.loop-at.at c.field-item.result l c.field-item.is in
    let kept : Bool = is_some (constant_at c.args.constants.now (member c.args.class.0 c.loop-at.at)) in
    let met : (source : Source) → c.in_ok-was_met.was_met ≡ list_any (has_name source c.field-item.result.name.name) before =
    λ source. c.in_ok-was_met.ensures.before ∙ c.loop-at.invariant.met source c.field-item.result.name.name in
    let told : (source : Source) → c.if-not-was_met.is_told ≡ (not (list_any (has_name source c.field-item.result.name.name) before) && kept) = λ source.
    elim c.if-not-was_met.branch [
      | then-not-was_met w ↦ w.is_told-is ∙ w.is_some-is_told.ensures ∙ is_there (λ k. constant_seen k.now) w.constant_of.result ∙ ap is_some w.constant_of.ensures
          ∙ ap (λ b. not b && kept) (sym w.if-not-was_met.true ∙ met source)
      | else-not-was_met w ↦ w.is_told-is ∙ ap not w.if-not-was_met.false ∙ ap (λ b. not b && kept) (sym w.if-not-was_met.false ∙ met source)
    ] in
    record {
      met = λ source x. c.in_ok-was_met.ensures.now x ∙ met_next source x _ before _ (field_shown c.field-item.result) next (c.loop-at.invariant.met source x);
      named = λ source p e k x. name_next source p c.args.class.0 x before _ (field_shown c.field-item.result) k c.loop-at.at _ _ _ c.if-not-was_met.is_told
          next (count_taken c.fields_of-field-items.result.now c.loop-at.at (omega arith))
          (told source ∙ ap (λ (constants : Member → Option Constant). not (list_any (has_name source c.field-item.result.name.name) before)
          && is_some (constants (member c.args.class.0 c.loop-at.at))) (sym e))
          (c.loop-at.invariant.named source p e k x) (c.in_ok-add_if.ensures k x);
    }

pub returns : goal.returns
returns c = λ source p classes constants k x. c.loop-at.invariant.named source p constants k x
    ∙ ap (λ b. is_among c.args.named.now.items k x || b)
    (names_end source p c.args.class.0 x c.fields_of-field-items.result.now c.loop-at.at k (omega arith) (c.fields_of-field-items.ensures ∙ ap (λ ds. fields_of ds c.args.class.0) (sym classes)))
