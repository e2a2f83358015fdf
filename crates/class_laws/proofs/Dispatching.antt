-- What dispatch gives is what the relation says. A way upwards from a class is the only one, so it comes by no class twice, and is
-- no longer than there are classes.
use Rattle.std.proofs.Common.{◌≡◌, ℕ, zero, suc, ◌<◌, ◌≤◌, List, [], ◌∷◌, length, refl, sym, ap, subst, arith}
use Rattle.std.specs.Prelude.{true, false, ◌||◌, Option, Some, None, nat_eq, if◌then◌else◌}
use Rattle.std.specs.List.{list_any, IsDistinct, AllByRecursion}
use Rattle.std.proofs.lemmas.Bool.Decides.{nat_tests}
use Rattle.std.proofs.lemmas.Map.Steps.{length-le_from_distinct_below}
use Rattle.std.proofs.lemmas.Option.{slice_get_within}
use Rattle.je_core.specs.declared.types.ClassId.{ClassId}
use Rattle.je_core.specs.Core.{CoreMethod, CoreClass, CoreProgram}
use Rattle.je_classes.specs.Hierarchy.{class_at}
use Rattle.je_classes.specs.Members.{Member, is_private, method_of}
use Rattle.je_classes.specs.Dispatch.{own_from, unless_abstract, placed, next_above, own_or_above, implemented_upwards, implemented, bridged, implemented_or_private, bridged_or, dispatched}
use Rattle.je_classes.proofs.Lists.{bool_cases}
use Rattle.class_laws.specs.Implementing.{Implements, by_its_own, by_one_above, HasFor, by_a_bridge, by_itself, by_implementing, DispatchIsDecided}

unless-some : (m : CoreMethod) (x y : Member) → unless_abstract m x ≡ Some y → (m.flags.is_abstract ≡ false) × (x ≡ y)
unless-some m x y e = bool_cases (λ b. m.flags.is_abstract ≡ b → (if b then None else Some x) ≡ Some y → (m.flags.is_abstract ≡ false) × (x ≡ y)) m.flags.is_abstract
    (λ _ h g. absurd cc) (λ _ h g. (h, cc)) refl e

module _ (p : CoreProgram) (m : CoreMethod) where
  -- ---- what the function gives

  abbrev Gives : (Option ClassId → Option Member) → Type 0
  Gives above = (d : ClassId) (x : Member) → above (Some d) ≡ Some x → Implements p m d x

  higher-sound : (n : ℕ) → Gives (implemented_upwards p n m) → (c : ClassId) (k : CoreClass) → class_at p c ≡ Some k → own_from m 0 k.methods ≡ None →
      (o : Option ClassId) → next_above k ≡ o → (x : Member) → implemented_upwards p n m o ≡ Some x → Implements p m c x
  higher-sound zero gives c k e own None q x h = absurd cc
  higher-sound (suc n) gives c k e own None q x h = absurd cc
  higher-sound n gives c k e own (Some d) q x h = by_one_above e own q (gives d x h)

  placed-sound : (n : ℕ) → Gives (implemented_upwards p n m) → (c : ClassId) (k : CoreClass) → class_at p c ≡ Some k → (o : Option (ℕ × CoreMethod)) →
      own_from m 0 k.methods ≡ o → (x : Member) → placed c o (implemented_upwards p n m (next_above k)) ≡ Some x → Implements p m c x
  placed-sound n gives c k e None own x h = higher-sound n gives c k e own (next_above k) refl x h
  placed-sound n gives c k e (Some (at, own)) q x h =
      let u = unless-some own (record { class = c; at = at }) x h in subst (Implements p m c) u.1 (by_its_own e q u.0)

  class-sound : (n : ℕ) → Gives (implemented_upwards p n m) → (c : ClassId) (o : Option CoreClass) → class_at p c ≡ o → (x : Member) →
      own_or_above (implemented_upwards p n m) m c o ≡ Some x → Implements p m c x
  class-sound n gives c None e x h = absurd cc
  class-sound n gives c (Some k) e x h = placed-sound n gives c k e (own_from m 0 k.methods) refl x h

  upwards-sound : (n : ℕ) → Gives (implemented_upwards p n m)
  upwards-sound zero d x h = absurd cc
  upwards-sound (suc n) d x h = class-sound n (upwards-sound n) d (class_at p d) refl x h

  -- ---- the numbers of the classes that a way upwards comes by

  data Way : List ℕ → ClassId → Member → Type 0 where
    ends : {c : ClassId} {k : CoreClass} {at : ℕ} {own : CoreMethod} → class_at p c ≡ Some k → own_from m 0 k.methods ≡ Some (at, own) →
        own.flags.is_abstract ≡ false → Way (c.0 ∷ []) c (record { class = c; at = at })
    goes : {xs : List ℕ} {c d : ClassId} {k : CoreClass} {x : Member} → class_at p c ≡ Some k → own_from m 0 k.methods ≡ None → next_above k ≡ Some d →
        Way xs d x → Way (c.0 ∷ xs) c x

  record AWay (c : ClassId) (x : Member) : Type 0 where
    numbers : List ℕ
    way : Way numbers c x

  way-of : {c : ClassId} {x : Member} → Implements p m c x → AWay c x
  way-of (by_its_own {c = c} e own f) = record { numbers = c.0 ∷ []; way = ends e own f }
  way-of (by_one_above {c = c} e own q r) = let w = way-of r in record { numbers = c.0 ∷ w.numbers; way = goes e own q w.way }

  climbs : {xs : List ℕ} {c : ClassId} {x : Member} → Way xs c x → (n : ℕ) → length xs ≤ n → implemented_upwards p n m (Some c) ≡ Some x
  climbs (ends e own f) zero h = absurd (omega arith)
  climbs (ends e own f) (suc n) h = rw e (rw own (rw f refl))
  climbs (goes e own q r) zero h = absurd (omega arith)
  climbs (goes e own q r) (suc n) h = rw e (rw own (rw q (climbs r n (omega arith))))

  -- two ways from one class are as long
  as-long : {xs ys : List ℕ} {c d : ClassId} {x y : Member} → Way xs c x → Way ys d y → c ≡ d → length xs ≡ length ys
  as-long (ends e own f) (ends e' own' f') s = refl
  as-long (ends e own f) (goes e' own' q r) s = absurd cc
  as-long (goes e own q r) (ends e' own' f) s = absurd cc
  as-long (goes {d = d} e own q r) (goes {d = d'} e' own' q' r') s = let t : d ≡ d' = cc in ap suc (as-long r r' t)

  record Part (xs : List ℕ) (n : ℕ) (x : Member) : Type 0 where
    class : ClassId
    numbers : List ℕ
    is : class.0 ≡ n
    way : Way numbers class x
    short : length numbers ≤ length xs

  longer-part : {xs : List ℕ} {n k : ℕ} {x : Member} → Part xs n x → Part (k ∷ xs) n x
  longer-part s = let h : length s.numbers ≤ _ = s.short in record { class = s.class; numbers = s.numbers; is = s.is; way = s.way; short = omega (arith, h) }

  part-at : {xs : List ℕ} {c : ClassId} {x : Member} → Way xs c x → (n : ℕ) → list_any (nat_eq n) xs ≡ true → Part xs n x
  part-at (ends {c = c} e own f) n h = record { class = c; numbers = c.0 ∷ []; is = (let g : nat_eq n c.0 ≡ true = grind (arith, nat_tests) in grind (arith, nat_tests)); way = ends e own f; short = omega arith }
  part-at (goes {xs = xs} {c = c} {x = x} e own q r) n h =
      bool_cases (λ b. nat_eq n c.0 ≡ b → (b || list_any (nat_eq n) xs) ≡ true → Part (c.0 ∷ xs) n x) (nat_eq n c.0)
      (λ _ g _. record { class = c; numbers = c.0 ∷ xs; is = grind (arith, nat_tests); way = goes e own q r; short = omega arith })
      (λ _ g k. longer-part (part-at r n k)) refl h

  there : {xs : List ℕ} {c : ClassId} {x : Member} → Way xs c x → c.0 < length p.classes
  there (ends {c = c} {k = k} e own f) = slice_get_within p.classes c.0 k e
  there (goes {c = c} {k = k} e own q r) = slice_get_within p.classes c.0 k e

  all-there : {xs : List ℕ} {c : ClassId} {x : Member} → Way xs c x → (n : ℕ) → list_any (nat_eq n) xs ≡ true → n < length p.classes
  all-there w n h = let s = part-at w n h in subst (λ (i : ℕ). i < length p.classes) s.is (there s.way)

  one_class : (c d : ClassId) → c.0 ≡ d.0 → c ≡ d
  one_class c d e = grind (arith, nat_tests)

  -- it doesn't come by its first class again
  not-again : {xs : List ℕ} {c d : ClassId} {x : Member} → Way (c.0 ∷ xs) c x → Way xs d x → list_any (nat_eq c.0) xs ≡ false
  not-again {xs = xs} {c = c} w r = bool_cases (λ b. list_any (nat_eq c.0) xs ≡ b → b ≡ false) (list_any (nat_eq c.0) xs)
      (λ _ h. absurd (let s = part-at r c.0 h in let l : length (c.0 ∷ xs) ≡ length s.numbers = as-long w s.way (one_class c s.class (sym s.is)) in
      let k : length s.numbers ≤ length xs = s.short in omega (arith, l, k)))
      (λ _ h. refl) refl

  none-there : (n : ℕ) (xs : List ℕ) → list_any (nat_eq n) xs ≡ false → AllByRecursion (λ y. nat_eq n y ≡ false) xs
  none-there n [] e = tt
  none-there n (x ∷ xs) e = bool_cases (λ b. nat_eq n x ≡ b → (b || list_any (nat_eq n) xs) ≡ false → AllByRecursion (λ y. nat_eq n y ≡ false) (x ∷ xs)) (nat_eq n x)
      (λ _ q h. absurd cc)
      (λ _ q h. (q, none-there n xs h)) refl e

  distinct : {xs : List ℕ} {c : ClassId} {x : Member} → Way xs c x → IsDistinct nat_eq xs
  unfolding IsDistinct
  distinct (ends e own f) = (tt, tt)
  distinct (goes {xs = xs} {c = c} e own q r) = (none-there c.0 xs (not-again (goes e own q r) r), distinct r)

  climbs-enough : {c : ClassId} {x : Member} → Implements p m c x → implemented_upwards p (length p.classes) m (Some c) ≡ Some x
  climbs-enough i = let w = way-of i in climbs w.way (length p.classes) (length-le_from_distinct_below w.numbers (length p.classes) (distinct w.way) (all-there w.way))

-- ---- dispatch

implemented-to : (p : CoreProgram) (k : CoreMethod) (c : ClassId) (x : Member) → implemented p c k ≡ Some x → Implements p k c x
unfolding implemented
implemented-to p k c x h = upwards-sound p k (length p.classes) c x h

implemented-from : (p : CoreProgram) (k : CoreMethod) (c : ClassId) (x : Member) → Implements p k c x → implemented p c k ≡ Some x
unfolding implemented
implemented-from p k c x i = climbs-enough p k i

method-to : (p : CoreProgram) (c : ClassId) (m x : Member) (o : Option CoreMethod) → method_of p m ≡ o → bridged (class_at p c) m ≡ None →
    implemented_or_private p c m o ≡ Some x → HasFor p c m x
method-to p c m x None e b h = absurd cc
method-to p c m x (Some k) e b h = bool_cases (λ t. is_private k ≡ t → (if t then unless_abstract k m else implemented p c k) ≡ Some x → HasFor p c m x) (is_private k)
    (λ _ q g. let u = unless-some k m x g in subst (HasFor p c m) u.1 (by_itself b e q u.0))
    (λ _ q g. by_implementing b e q (implemented-to p k c x g)) refl h

bridge-to : (p : CoreProgram) (c : ClassId) (m x : Member) (o : Option Member) → bridged (class_at p c) m ≡ o →
    bridged_or o (implemented_or_private p c m (method_of p m)) ≡ Some x → HasFor p c m x
bridge-to p c m x None b h = method-to p c m x (method_of p m) refl b h
bridge-to p c m x (Some y) b h = subst (HasFor p c m) (let e : y ≡ x = cc in e) (by_a_bridge b)

dispatched-from : (p : CoreProgram) (c : ClassId) (m : Member) {x : Member} → HasFor p c m x → dispatched p c m ≡ Some x
unfolding dispatched
dispatched-from p c m (by_a_bridge b) = rw b refl
dispatched-from p c m (by_itself b e q f) = rw b (rw e (rw q (rw f refl)))
dispatched-from p c m (by_implementing {k = k} {x = x} b e q i) = rw b (rw e (rw q (implemented-from p k c x i)))

pub dispatch_decided : DispatchIsDecided
unfolding dispatched
dispatch_decided p c m x = (bridge-to p c m x (bridged (class_at p c) m) refl, dispatched-from p c m)
