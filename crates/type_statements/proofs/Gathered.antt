-- What statements come to, one behind the other, at the scope and the progress behind what came before.
use Rattle.std.proofs.Common.{◌≡◌, ℕ, ◌+◌, ◌<◌, ◌≤◌, List, [], ◌∷◌, length, drop, get_or, refl, ap, sym, ◌∙◌, append_assoc, append-nil}
use Rattle.je_typing.specs.declared.fault.Refusal.{Refusal}
use Rattle.je_typing.specs.Answers.{IsFault}
use Rattle.je_typing.specs.Judged.{Judged, gives, bind}
use Rattle.body_typing.specs.FinalVariables.{Scope}
use Rattle.body_typing.specs.Bodies.{Done, Progress, followed, nothing_done}
use Rattle.statement_forms.proofs.Following.{bind_kept}
use Rattle.type_statements.proofs.Gathering.{gather_fails, gathered, gathered_all, gathers_on}

-- a scope, and what is met so far
pub record At : Type 0 where
  pub scope : Scope
  pub progress : Progress

abbrev pub behind_it : Done → At
behind_it d = record { scope = d.scope; progress = d.progress }

pub followed_further : (a b rest : Done) → followed a (followed b rest) ≡ followed (followed a b) rest
followed_further a b rest = λ i. record {
  code = sym (append_assoc a.code b.code rest.code) i;
  numbers = sym (append_assoc a.numbers b.numbers rest.numbers) i;
  scope = rest.scope;
  progress = rest.progress;
}

pub followed_all : (a : Done) → followed a (nothing_done a.scope a.progress) ≡ a
followed_all a = λ i. record {
  code = append-nil a.code i;
  numbers = append-nil a.numbers i;
  scope = a.scope;
  progress = a.progress;
}

pub nothing_gathered : (s : Scope) (pr : Progress) (m : Judged Done) → m ≡ gathered (followed (nothing_done s pr)) m
nothing_gathered s pr m = sym (bind_kept m (λ rest. gives (followed (nothing_done s pr) rest)) (λ rest. refl))

module _ {X : Type 0} (walk : At → List X → Judged Done) (step : At → X → Judged Done)
    (none : (at : At) → walk at [] ≡ gives (nothing_done at.scope at.progress))
    (law : (at : At) (x : X) (xs : List X) → walk at (x ∷ xs) ≡ bind (step at x) (λ d. bind (walk (behind_it d) xs) (λ rest. gives (followed d rest))))
    (xs : List X) (i : ℕ) (whole : Judged Done) (a : Done) where
  pub done_on : (x : X) (b c : Done) → i < length xs → x ≡ get_or xs i x → whole ≡ gathered (followed a) (walk (behind_it a) (drop i xs)) →
      step (behind_it a) x ≡ gives b → c ≡ followed a b → whole ≡ gathered (followed c) (walk (behind_it c) (drop (i + 1) xs))
  done_on x b c within is met g e =
      gathers_on walk step (λ at y d. behind_it d) (λ at y d. followed d) law xs i (behind_it a) whole (followed a) x within is met
      b (behind_it c) (followed c) g (ap behind_it e) (λ rest. followed_further a b rest ∙ ap (λ (d : Done). followed d rest) (sym e))

  pub done_fails : (x : X) (r : Refusal) → i < length xs → x ≡ get_or xs i x → whole ≡ gathered (followed a) (walk (behind_it a) (drop i xs)) →
      IsFault (step (behind_it a) x) r → IsFault whole r
  done_fails x r within is met f =
      gather_fails walk step (λ at y d. behind_it d) (λ at y d. followed d) law xs i (behind_it a) whole (followed a) x within is met r f

  pub done_all : length xs ≤ i → whole ≡ gathered (followed a) (walk (behind_it a) (drop i xs)) → whole ≡ gives a
  done_all past met =
      gathered_all walk step (λ at y d. behind_it d) (λ at y d. followed d) law xs i (behind_it a) whole (followed a)
      (nothing_done a.scope a.progress) a past (none (behind_it a)) (followed_all a) met
