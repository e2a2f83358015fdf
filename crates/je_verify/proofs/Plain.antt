-- What breaks no rule is plain: the taming text enables tame members alone, and the program fits.
use Rattle.std.proofs.Common.{inl, inr}
use Rattle.std.proofs.Math.Logic.{∥∥₁_elim}
use Rattle.std.proofs.Props.{props}
use Rattle.je_fitting.proofs.ClassesDecided.{program_sound}
use Rattle.plain_programs.specs.Plain.{IsPlain}
use Rattle.plain_programs.proofs.Decided.{plain-where, where-plain}
use Rattle.taming_db.specs.declared.taming.Taming.{Taming}
use Rattle.taming_db.specs.View.{rows}
use Rattle.je_types.specs.declared.typed.Typed.{Typed}
use Rattle.je_types.specs.Views.{program_of}
use Rattle.plain_laws.proofs.Programs.{unbroken_is_plain}
use Rattle.je_verify.specs.Broken.{broken, IsUnbroken}

pub accepted_is_plain : (typed : Typed) (taming : Taming) → IsUnbroken (program_of typed) (rows taming) → IsPlain (program_of typed)
unfolding broken
accepted_is_plain typed taming u = plain-where (program_of typed) (∥∥₁_elim typed.library (search props) (λ library.
    where-plain (program_of typed) (unbroken_is_plain (program_of typed) (rows taming) library (program_sound (program_of typed) typed.fits) taming.tame
    (record { none_among = λ b h. u b (inl h) })
    (record { none_among = λ b h. u b (inr (inr (inr (inr (inr h))))) }))))
