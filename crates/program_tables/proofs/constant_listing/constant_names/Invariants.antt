use Rattle.std.proofs.Common.{◌≡◌, ℕ}
use Rattle.std.specs.Prelude.{◌&&◌, nat_lt}
use Rattle.je_base.specs.declared.span.NameId.{NameId}
use Rattle.je_scopes.specs.Source.{Source}
use Rattle.class_heads.specs.View.{classes_of}
use Rattle.name_typing.specs.Program.{Program}
use Rattle.body_places.specs.Tables.{constant_at}
use Rattle.class_typing.specs.Elaboration.{is_constant}
use Rattle.signature_steps.specs.View.{is_among}
use Rattle.program_tables.proofs.constant_listing.constant_names.Given as goal

abbrev pub invariant-loop-number : goal.invariant-loop-number
invariant-loop-number l = (source : Source) (p : Program) → p.classes ≡ classes_of l.classes → p.constants ≡ constant_at l.constants →
    (c : ℕ) (x : NameId) → is_among l.named.items c x ≡ (nat_lt c l.number && is_constant source p c x)
