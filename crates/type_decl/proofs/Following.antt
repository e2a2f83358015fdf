-- What members come to, one after the other.
use Rattle.std.proofs.Common.{◌≡◌, ℕ, ◌+◌, ◌<◌, ◌≤◌, List, [], ◌∷◌, length, drop, get_or, refl, sym, ap, subst, ◌∙◌, append_assoc, append-nil}
use Rattle.std.proofs.lemmas.List.{at_drop_all, at_drop_more}
use Rattle.je_typing.specs.declared.fault.Refusal.{Refusal}
use Rattle.je_typing.specs.Answers.{IsFault}
use Rattle.je_typing.specs.Judged.{Judged, gives, faulty, bind}
use Rattle.je_typing.proofs.Walks.{bind_faults, bind_gives}
use Rattle.class_typing.specs.Members.{MembersDone, followed_by, nothing}

-- what was done, and the rest
abbrev pub behind : MembersDone → Judged MembersDone → Judged MembersDone
behind d rest = bind rest (λ (r : MembersDone). gives (followed_by d r))

followed_further : (a b c : MembersDone) → followed_by a (followed_by b c) ≡ followed_by (followed_by a b) c
followed_further a b c = λ i. record {
  constants = sym (append_assoc a.constants b.constants c.constants) i;
  initializers = sym (append_assoc a.initializers b.initializers c.initializers) i;
  methods = sym (append_assoc a.methods b.methods c.methods) i;
  calls = sym (append_assoc a.calls b.calls c.calls) i;
  met = sym (append_assoc a.met b.met c.met) i;
}

followed_last : (a : MembersDone) → followed_by a nothing ≡ a
followed_last a = λ i. record {
  constants = append-nil a.constants i;
  initializers = append-nil a.initializers i;
  methods = append-nil a.methods i;
  calls = append-nil a.calls i;
  met = append-nil a.met i;
}

pub behind_nothing : (m : Judged MembersDone) → behind nothing m ≡ m
unfolding bind
behind_nothing (gives d) = refl
behind_nothing (faulty fault) = refl

pub behind_last : (d : MembersDone) → behind d (gives nothing) ≡ gives d
unfolding bind
behind_last d = ap gives (followed_last d)

pub behind_both : (a b : MembersDone) (m : Judged MembersDone) → behind a (behind b m) ≡ behind (followed_by a b) m
unfolding bind
behind_both a b (gives c) = ap gives (followed_further a b c)
behind_both a b (faulty fault) = refl

-- A walk has come to an element, which it judges by `s`, and those behind it by `t`.
module _ {S A : Type 0} (walk : S → List A → Judged MembersDone) (xs : List A) (i : ℕ) (s : S) (whole : Judged MembersDone) (done : MembersDone) where
  module _ (x : A) (step : Judged MembersDone) (t : S) (law : (ys : List A) → walk s (x ∷ ys) ≡ bind step (λ (d : MembersDone). behind d (walk t ys)))
      (within : i < length xs) (is : x ≡ get_or xs i x) (met : behind done (walk s (drop i xs)) ≡ whole) where
    here : behind done (bind step (λ (d : MembersDone). behind d (walk t (drop (i + 1) xs)))) ≡ whole
    here =
        ap (behind done) (sym (at_drop_more (walk s) xs i x within ∙ ap (λ (y : A). walk s (y ∷ drop (i + 1) xs)) (sym is) ∙ law (drop (i + 1) xs))) ∙ met

    pub follows : (more : MembersDone) → step ≡ gives more → behind (followed_by done more) (walk t (drop (i + 1) xs)) ≡ whole
    follows more g =
        sym (behind_both done more (walk t (drop (i + 1) xs)))
        ∙ ap (behind done) (sym (bind_gives step (λ (d : MembersDone). behind d (walk t (drop (i + 1) xs))) more g)) ∙ here

    pub fails : (r : Refusal) → IsFault step r → IsFault whole r
    fails r f =
        subst (λ (j : Judged MembersDone). IsFault j r) here
        (bind_faults (bind step (λ (d : MembersDone). behind d (walk t (drop (i + 1) xs)))) (λ (d : MembersDone). gives (followed_by done d)) r
        (bind_faults step (λ (d : MembersDone). behind d (walk t (drop (i + 1) xs))) r f))

  pub ends : walk s [] ≡ gives nothing → length xs ≤ i → behind done (walk s (drop i xs)) ≡ whole → whole ≡ gives done
  ends empty past met =
      sym met ∙ at_drop_all (λ (ys : List A). behind done (walk s ys)) xs i past ∙ ap (behind done) empty ∙ behind_last done
