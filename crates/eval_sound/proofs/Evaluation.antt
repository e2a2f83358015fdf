-- Evaluation is safe: by induction on how deep nodes nest.
use Rattle.std.proofs.Common.{ℕ, zero, suc, refl, ap, ◌∙◌}
use Rattle.std.specs.Prelude.{slice_get}
use Rattle.je_core.specs.Core.{CoreProgram}
use Rattle.je_classes.specs.Laws.{SubtypesAreDecided}
use Rattle.je_classes.specs.Members.{methods_in}
use Rattle.je_java.specs.Meaning.{Meanings, nodes, with_turns, no_nodes, meanings, java}
use Rattle.eval_sound.specs.Laws.{MeaningsAreSafe, EvaluationIsSafe}
use Rattle.eval_sound.specs.Premises.{Premises}
use Rattle.eval_sound.specs.Safety.{Setting, ProgramFits}
use Rattle.eval_sound.proofs.Members.{method-class}
use Rattle.eval_sound.proofs.Constructors.{constructor-safe}
use Rattle.eval_sound.proofs.Moves.{safe-seq, safe-spent}
use Rattle.eval_sound.proofs.Starts.{node-safe}
use Rattle.eval_sound.proofs.Statements.{statement-safe, turn-safe}
use Rattle.eval_sound.proofs.Steps.{safe-tick}
use Rattle.eval_sound.proofs.Types.{Known}

no-nodes-safe : (S : Setting) → MeaningsAreSafe S no_nodes
no-nodes-safe S = record { eval = λ f x w. safe-spent; exec = λ f x w. safe-spent; build = λ class c at k b there its con e w. safe-spent; again = λ f x z w. safe-spent }

module _ {S : Setting} (fit : Known S.program) (premises : Premises S) where
  with-turns-safe : {m : Meanings} → MeaningsAreSafe S m → MeaningsAreSafe S (with_turns m)
  with-turns-safe g = record { eval = g.eval; exec = g.exec; build = g.build; again = λ {context = c} {s = s} f x z w. turn-safe fit g {c = c} s f x z w }

  nodes-safe : {m : Meanings} → MeaningsAreSafe S m → MeaningsAreSafe S (nodes S.program m)
  nodes-safe g = record {
    eval = λ f x w. safe-seq safe-tick λ later l. node-safe fit premises g f x later;
    exec = λ f x w. safe-seq safe-tick λ later l. statement-safe fit g f x later;
    build = λ class c at k b there its con e w. safe-seq safe-tick λ later l.
        let h = method-class S.program fit.whole class at k (ap (λ o. slice_get (methods_in o) at) there ∙ its) in
        constructor-safe fit premises g class h.the_class at k h.there h.its con (h.fits.constructor con).own refl e (h.fits.body b e) (premises.allowed.methods class h.the_class at k b h.there h.its e) later;
    again = g.again;
  }

  meanings-safe : (n : ℕ) → MeaningsAreSafe S (meanings S.program n)
  unfolding meanings
  meanings-safe zero = with-turns-safe (no-nodes-safe S)
  meanings-safe (suc n) = with-turns-safe (nodes-safe (meanings-safe n))

  pub java-safe : MeaningsAreSafe S (java S.program)
  unfolding java
  java-safe = record {
    eval = λ f x w. record { run = λ go exits g y. record { from = λ s l st. (((meanings-safe s.public.units).eval f x w).run go exits g y).from s l st } };
    exec = λ f x w. record { run = λ go exits g y. record { from = λ s l st. (((meanings-safe s.public.units).exec f x w).run go exits g y).from s l st } };
    build = λ class c at k b there its con e w. record { run = λ go exits g y. record { from = λ s l st. (((meanings-safe s.public.units).build class c at k b there its con e w).run go exits g y).from s l st } };
    again = λ f x z w. record { run = λ go exits g y. record { from = λ s l st. (((meanings-safe s.public.units).again f x z w).run go exits g y).from s l st } };
  }

pub known : {p : CoreProgram} → SubtypesAreDecided → ProgramFits p → Known p
known decided f = record { whole = f.whole; library = f.library; decided = decided }

pub evaluation_is_safe : SubtypesAreDecided → EvaluationIsSafe
evaluation_is_safe decided setting f premises = java-safe (known decided f) premises
