-- Users of classes that are added one by one.
use Rattle.std.proofs.Common.{◌≡◌, ◌≢◌, ℕ, zero, suc, ◌<◌, List, [], ◌∷◌, ◌++◌, length, set, Option, Some, None, refl, sym, ◌∙◌, ap, subst, arith, inl, inr}
use Rattle.std.specs.Prelude.{◌⊎◌, slice_get}
use Rattle.std.specs.List.{Contains}
use Rattle.std.specs.declared.vec.Vec.{Vec}
use Rattle.std.specs.declared.alloc.Global.{Global}
use Rattle.std.proofs.lemmas.List.{map-append}
use Rattle.std.proofs.lemmas.Option.{slice_get_within}
use Rattle.je_core.specs.declared.types.ClassId.{ClassId}
use Rattle.je_classes.proofs.Lists.{contains-here, contains-cases}
use Rattle.je_scopes.proofs.Either.{by_either, nothing-in}
use Rattle.je_scopes.proofs.Lists.{in-left, in-right, in-either}
use Rattle.scope_laws.proofs.Cycles.{nat_either}
use Rattle.name_sites.specs.Number.{number_of}
use Rattle.name_lookup.specs.View.{numbers}
use Rattle.class_places.specs.declared.users.Users.{Users}
use Rattle.class_places.specs.way.Users.{Adds, IsPair, list_in, users_of}

-- ---- one relation and then another one

pub adds-then : (R S T : ℕ → ℕ → Type 0) (a b c : Users) → Adds R a b → Adds S b c → ((x y : ℕ) → T x y → R x y ⊎ S x y) →
    ((x y : ℕ) → R x y → T x y) → ((x y : ℕ) → S x y → T x y) → Adds T a c
adds-then R S T a b c g h split left right = record {
  whole = h.whole ∙ g.whole;
  keeps = λ x y q. h.keeps x y (g.keeps x y q);
  has = λ x y l t. by_either (λ r. h.keeps x y (g.has x y l r)) (λ s. h.has x y (subst (λ n. x < n) (sym g.whole) l) s) (split x y t);
  only = λ x y q. by_either (λ r. by_either (λ s. inl s) (λ s. inr (left x y s)) (g.only x y r)) (λ s. inr (right x y s)) (h.only x y q);
}

pub adds-none : (T : ℕ → ℕ → Type 0) (a : Users) → ((x y : ℕ) → T x y → ⊥) → Adds T a a
adds-none T a never = record { whole = refl; keeps = λ x y q. q; has = λ x y l t. absurd (never x y t); only = λ x y q. inl q }

pub adds-same : (R T : ℕ → ℕ → Type 0) (a b : Users) → Adds R a b → ((x y : ℕ) → T x y → R x y) → ((x y : ℕ) → R x y → T x y) → Adds T a b
adds-same R T a b g from to = record {
  whole = g.whole;
  keeps = g.keeps;
  has = λ x y l t. g.has x y l (from x y t);
  only = λ x y q. by_either (λ s. inl s) (λ s. inr (to x y s)) (g.only x y q);
}

-- ---- one user of one class

pub get-set-same : {A : Type 0} (xs : List A) (i : ℕ) (x : A) → i < length xs → slice_get (set xs i x) i ≡ Some x
get-set-same [] i x l = absurd (omega arith)
get-set-same (y ∷ xs) zero x l = refl
get-set-same (y ∷ xs) (suc i) x l = get-set-same xs i x (omega arith)

pub get-set-other : {A : Type 0} (xs : List A) (i k : ℕ) (x : A) → k ≢ i → slice_get (set xs i x) k ≡ slice_get xs k
get-set-other [] i k x n = refl
get-set-other (y ∷ xs) zero zero x n = absurd (n refl)
get-set-other (y ∷ xs) zero (suc k) x n = refl
get-set-other (y ∷ xs) (suc i) zero x n = refl
get-set-other (y ∷ xs) (suc i) (suc k) x n = get-set-other xs i k x (λ e. n (ap suc e))

pub length-set-same : {A : Type 0} (xs : List A) (i : ℕ) (x : A) → length (set xs i x) ≡ length xs
length-set-same [] i x = refl
length-set-same (y ∷ xs) zero x = refl
length-set-same (y ∷ xs) (suc i) x = ap suc (length-set-same xs i x)

module _ (old new : Users) (c : ℕ) (user : ClassId) where
  pub adds-one : (list more : Vec ClassId Global) → slice_get old.lists.items c ≡ Some list → new.lists.items ≡ set old.lists.items c more →
      more.items ≡ list.items ++ user ∷ [] → Adds (IsPair c user.0) old new
  unfolding users_of
  adds-one list more e s m = record {
    whole = ap length s ∙ length-set-same old.lists.items c more;
    keeps = λ x y q. by_either (λ (k : x ≡ c). subst (λ (l : List ℕ). Contains l y) (sym (at x k)) (in-left (users_of old x) (user.0 ∷ []) y q))
        (λ n. subst (λ (l : List ℕ). Contains l y) (sym (other x n)) q) (nat_either x c);
    has = λ x y l r. subst (λ (ls : List ℕ). Contains ls y) (sym (at x r.0)) (in-right (users_of old x) (user.0 ∷ []) y (subst (Contains (user.0 ∷ [])) (sym r.1) (contains-here user.0 [])));
    only = λ x y q. by_either
        (λ (k : x ≡ c). by_either (λ r. inl r) (λ r. by_either (λ h. inr (k, sym h)) (λ h. absurd (nothing-in y h)) (contains-cases user.0 y [] r)) (in-either (users_of old x) (user.0 ∷ []) y (subst (λ (l : List ℕ). Contains l y) (at x k) q)))
        (λ n. inl (subst (λ (l : List ℕ). Contains l y) (other x n) q)) (nat_either x c);
  }
    where
      within : c < length old.lists.items
      within = slice_get_within old.lists.items c list e

      at : (x : ℕ) → x ≡ c → users_of new x ≡ users_of old x ++ user.0 ∷ []
      at x k = ap (users_of new) k ∙ ap (λ (ls : List (Vec ClassId Global)). list_in (slice_get ls c)) s ∙ ap list_in (get-set-same old.lists.items c more within) ∙ ap numbers m
          ∙ map-append number_of list.items (user ∷ []) ∙ ap (λ (o : Option (Vec ClassId Global)). list_in o ++ user.0 ∷ []) (sym e) ∙ ap (λ (n : ℕ). users_of old n ++ user.0 ∷ []) (sym k)

      other : (x : ℕ) → x ≢ c → users_of new x ≡ users_of old x
      other x n = ap (λ (ls : List (Vec ClassId Global)). list_in (slice_get ls x)) s ∙ ap list_in (get-set-other old.lists.items c x more n)

  pub adds-past : slice_get old.lists.items c ≡ None → new ≡ old → Adds (IsPair c user.0) old new
  adds-past e s = subst (Adds (IsPair c user.0) old) (sym s) record {
    whole = refl;
    keeps = λ x y q. q;
    has = λ x y l r. absurd (let k : x ≡ c = r.0 in let m : x < length old.lists.items = l in past (subst (λ n. n < length old.lists.items) k m));
    only = λ x y q. inl q;
  }
    where
      past : c < length old.lists.items → ⊥
      past l = none-past old.lists.items c l e
        where
          none-past : {A : Type 0} (xs : List A) (i : ℕ) → i < length xs → slice_get xs i ≡ None → ⊥
          none-past [] i l e = absurd (omega arith)
          none-past (x ∷ xs) zero l e = absurd (cc)
          none-past (x ∷ xs) (suc i) l e = none-past xs i (omega arith) e
