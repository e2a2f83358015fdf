use Rattle.std.proofs.Common.{◌≡◌, ℕ, map, take}
use Rattle.std.specs.Prelude.{◌&&◌, ◌||◌, nat_eq}
use Rattle.std.specs.List.{list_any, position}
use Rattle.je_base.specs.declared.span.NameId.{NameId}
use Rattle.je_scopes.specs.Source.{Source}
use Rattle.name_faults.specs.Met.{is_met}
use Rattle.declarations.specs.View.{field_shown}
use Rattle.name_typing.specs.Program.{Program}
use Rattle.body_places.specs.Tables.{constant_at}
use Rattle.class_typing.specs.Elaboration.{has_name, is_constant_at}
use Rattle.signature_steps.specs.View.{is_among}
use Rattle.program_tables.proofs.constant_listing.add_names.Given as goal

abbrev pub invariant-loop-at : goal.invariant-loop-at
invariant-loop-at l = record {
  met : (source : Source) (x : NameId) → is_met l.met x ≡ list_any (has_name source x) (take l.at (map field_shown l.field-items));
  named : (source : Source) (p : Program) → p.constants ≡ constant_at l.constants → (c : ℕ) (x : NameId) → is_among l.named.items c x
      ≡ (is_among l.initial.named.items c x || (nat_eq l.class.0 c && is_constant_at source p l.class.0 (position (has_name source x) (take l.at (map field_shown l.field-items)))));
}
