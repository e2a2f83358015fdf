-- What is behind the first body, and what a move answers.
use Rattle.std.specs.Prelude.{Option, Some, None}
use Rattle.je_core.specs.declared.value.Value.{Value}
use Rattle.je_core.specs.declared.value.Value.TheVariants.{Null, Ref}
use Rattle.je_core.specs.Defaults.{default_of}
use Rattle.je_java.specs.Steps.{Done, out_of, with_own}
use Rattle.je_java.specs.Meaning.{ends, nobody, reply}
use Rattle.machine_parts.specs.declared.frame.Control.{Control}
use Rattle.machine_parts.specs.declared.frame.Control.TheVariants.{Done as DoneHere, Thrown as ThrownHere, ThrownInStart as ThrownInStartHere, Spent as SpentHere, Wrong as WrongHere, Memory}
use Rattle.machine_parts.specs.declared.frame.Reply.{Reply}
use Rattle.machine_parts.specs.declared.frame.Reply.TheVariants.{Result, Built}
use Rattle.machine_parts.specs.declared.frame.Next.{Next}
use Rattle.machine_parts.specs.declared.frame.Next.TheVariants.{More, Done as DoneNext, Thrown as ThrownNext, ThrownInStart as ThrownInStartNext, Spent as SpentNext}
use Rattle.machine_parts.specs.Ways.{Ways}

-- what the first body's value is for the caller
abbrev pub replied : Reply → Value → Option Value
replied (Result ty) value = reply ty value
replied (Built object) value = Some (Ref object)

-- the value of the first body where it ends without a return
abbrev pub at_end : Reply → Value
at_end (Result ty) = default_of ty
at_end (Built object) = Null

-- the ways on behind the first body
abbrev pub outermost : Reply → Ways
outermost r = record {
  give = λ v. Done (replied r v);
  next = λ u s. Done (replied r (at_end r)) (with_own s nobody);
  out = out_of nobody (λ v. Done (replied r v)) ends;
}

-- what a move that led to a control answers; none after want of memory, or where no program that fits its types comes
abbrev pub answer_at : Control → Option Next
answer_at (DoneHere reply) = Some (DoneNext reply)
answer_at (ThrownHere o) = Some (ThrownNext o)
answer_at (ThrownInStartHere class o) = Some (ThrownInStartNext class o)
answer_at SpentHere = Some SpentNext
answer_at WrongHere = None
answer_at Memory = None
answer_at _ = Some More
