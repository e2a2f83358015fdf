-- What a node gives that has a type, and how what follows it takes it.
use Rattle.std.proofs.Common.{◌≡◌, ℕ, zero, suc, List, [], ◌∷◌, map, refl, sym, subst, ◌∙◌}
use Rattle.std.specs.Prelude.{Bool, true, false, ◌&&◌}
use Rattle.std.specs.List.{All}
use Rattle.std.proofs.lemmas.List.Elements.{All-head, All-tail}
use Rattle.je_core.specs.declared.object.Obj.{Obj}
use Rattle.je_core.specs.declared.types.Base.{Base}
use Rattle.je_core.specs.declared.types.Ty.{Ty}
use Rattle.je_core.specs.declared.value.Value.{Value}
use Rattle.je_core.specs.Core.{CoreProgram}
use Rattle.je_classes.specs.Subtypes.{is_reference, is_subtype}
use Rattle.je_classes.proofs.Lists.{bool_cases}
use Rattle.je_classes.proofs.Same.{same_type-equal}
use Rattle.je_fitting.specs.Types.{void, is_void, agrees, all_agree}
use Rattle.je_fitting.specs.Members.{results_agree}
use Rattle.je_fitting.proofs.Booleans.{two}
use Rattle.je_java.specs.Steps.{Computation, bind, seq}
use Rattle.je_sound.specs.Values.{ValueFits, ValuesFit}
use Rattle.eval_sound.specs.Safety.{Setting, Grows, ResultFits, Fitting, Context, Safe}
use Rattle.eval_sound.proofs.Moves.{safe-bind, safe-seq, safe-weaker}
use Rattle.eval_sound.proofs.Operators.{either-way}
use Rattle.eval_sound.proofs.Types.{Known, fits-above}

-- a type of which something holds that doesn't hold of void
pub real-by : (test : Ty → Bool) (t : Ty) → test void ≡ false → test t ≡ true → is_void t ≡ false
real-by test t e f = bool_cases (λ b. b ≡ false) (is_void t) (λ q. absurd (no q)) (λ q. refl)
  where
    no : is_void t ≡ true → ⊥
    no q = let z : test void ≡ true = subst (λ (u : Ty). test u ≡ true) (same_type-equal t void q) f in let y = sym e ∙ z in absurd cc

pub void-agrees : (p : CoreProgram) (t : Ty) → agrees p void t ≡ false
unfolding is_subtype
void-agrees p t = by t.base t.dims
  where
    by : (b : Base) (n : ℕ) → agrees p void (record { base = b; dims = n }) ≡ false
    by b zero = refl
    by b (suc n) = refl

pub real-agrees : (p : CoreProgram) (s t : Ty) → agrees p s t ≡ true → is_void s ≡ false
real-agrees p s t e = real-by (λ u. agrees p u t) s (void-agrees p t) e

pub real-reference : (t : Ty) → is_reference t ≡ true → is_void t ≡ false
real-reference t e = real-by is_reference t refl e

-- both are void, or the first can stand for the second
pub result-by : (p : CoreProgram) (known : Known p) {objects : List Obj} {s t : Ty} {v : Value} → results_agree p s t ≡ true → ResultFits p s objects v → ResultFits p t objects v
result-by p known {s = s} {t = t} e f = record {
  fits = λ q. either-way (agrees p s t) (is_void s && is_void t) e (λ h. fits-above p known (f.fits (real-agrees p s t h)) h)
      (λ h. let v = (two {a = is_void s} {b = is_void t} h).1 in let y = sym q ∙ v in absurd cc);
}

module _ {S : Setting} where
  pub safe-result : {c : Context} {w : List Obj} {t : Ty} {m : Computation Value} → Safe S c w (Fitting S.program t) m → Safe S c w (ResultFits S.program t) m
  safe-result p = safe-weaker (λ later l v q. record { fits = λ e. q }) p

  pub bind_result : {B : Type 0} {Q : List Obj → B → Type 0} {c : Context} {w : List Obj} {t : Ty} {m : Computation Value} {f : Value → Computation B} → is_void t ≡ false →
      Safe S c w (ResultFits S.program t) m → ((later : List Obj) → Grows w later → (v : Value) → ValueFits S.program later t v → Safe S c later Q (f v)) → Safe S c w Q (bind m f)
  bind_result e p k = safe-bind p λ later l v q. k later l v (q.fits e)

  pub seq_any : {B : Type 0} {P : List Obj → Value → Type 0} {Q : List Obj → B → Type 0} {c : Context} {w : List Obj} {m : Computation Value} {n : Computation B} → Safe S c w P m →
      ((later : List Obj) → Grows w later → Safe S c later Q n) → Safe S c w Q (seq m n)
  seq_any p k = safe-seq p k

  pub whole : {c : Context} {w : List Obj} {t : Ty} {m : Computation Value} → is_void t ≡ false → Safe S c w (ResultFits S.program t) m → Safe S c w (Fitting S.program t) m
  whole e p = safe-weaker (λ later l v q. q.fits e) p

-- values that fit types fit types that those agree with

pub all-above : (p : CoreProgram) (known : Known p) (objects : List Obj) (ss ts : List Ty) (values : List Value) → all_agree p ss ts ≡ true → ValuesFit p objects ss values → ValuesFit p objects ts values
all-above p known objects [] [] [] e f = tt
all-above p known objects [] [] (v ∷ values) e f = f
all-above p known objects [] (t ∷ ts) values e f = absurd cc
all-above p known objects (s ∷ ss) [] values e f = absurd cc
all-above p known objects (s ∷ ss) (t ∷ ts) [] e f = f
all-above p known objects (s ∷ ss) (t ∷ ts) (v ∷ values) e f =
    let q = two {a = agrees p s t} {b = all_agree p ss ts} e in (fits-above p known f.0 q.0, all-above p known objects ss ts values q.1 f.1)

pub all-of : (S : Setting) (known : Known S.program) (objects : List Obj) (t : Ty) (ss : List Ty) (values : List Value) → All (λ s. agrees S.program s t ≡ true) ss →
    ValuesFit S.program objects ss values → ValuesFit S.program objects (map (λ (v : Value). t) values) values
all-of S known objects t [] [] a f = tt
all-of S known objects t [] (v ∷ values) a f = absurd f
all-of S known objects t (s ∷ ss) [] a f = absurd f
all-of S known objects t (s ∷ ss) (v ∷ values) a f =
    (fits-above S.program known f.0 (All-head (λ s. agrees S.program s t ≡ true) s ss a), all-of S known objects t ss values (All-tail (λ s. agrees S.program s t ≡ true) s ss a) f.1)
