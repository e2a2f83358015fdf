-- Maps that share what they have in common.
use Rattle.std.proofs.Common.{◌≡◌, ℕ, zero, suc, ◌+◌, ◌-◌, ◌*◌, ◌<◌, ◌≤◌, ◌^◌, ◌++◌, List, [], ◌∷◌, length, Option, Some, None, refl, sym, ap, ◌∙◌, subst, arith}
use Rattle.std.specs.Prelude.{Bool, true, false, ◌&&◌, ◌%◌, ◌/◌, slice_get, nat_eq, nat_lt, if◌then◌else◌}
use Rattle.std.proofs.lemmas.Bool.Decides.{nat_tests}
use Rattle.std.proofs.lemmas.Option.{same_Some, slice_get_within}
use Rattle.std.proofs.Math.Nat.{pow-suc}
use Rattle.number_maps.specs.declared.maps.Node.{Node}
use Rattle.number_maps.specs.declared.maps.Maps.{Maps}
use Rattle.number_maps.specs.Maps.{family, IsEmpty, IsMap, Keeps, HasMore}
use Rattle.number_maps.specs.way.Nodes.{branch, child, found, is_tree, bit_of, value_of, empty, BeginsEmpty, Grows, IsNode, IsWith}

get-old : {A : Type 0} (xs : List A) (x : A) (i : ℕ) → i < length xs → slice_get (xs ++ x ∷ []) i ≡ slice_get xs i
get-old [] x i l = absurd (omega (arith, l))
get-old (y ∷ ys) x zero l = refl
get-old (y ∷ ys) x (suc i) l = get-old ys x i (omega (arith, l))

get-new : {A : Type 0} (xs : List A) (x : A) → slice_get (xs ++ x ∷ []) (length xs) ≡ Some x
get-new [] x = refl
get-new (y ∷ ys) x = get-new ys x

length-push : {A : Type 0} (xs : List A) (x : A) → length (xs ++ x ∷ []) ≡ length xs + 1
length-push [] x = refl
length-push (y ∷ ys) x = let e : length (ys ++ x ∷ []) ≡ length ys + 1 = length-push ys x in omega (arith, e)

and-parts : (a b c : Bool) → (a && b && c) ≡ true → (a ≡ true) × (b ≡ true) × (c ≡ true)
and-parts true true c e = (refl, refl, e)
and-parts true false c e = absurd cc
and-parts false b c e = absurd cc

all-three : {a b c : Bool} → a ≡ true → b ≡ true → c ≡ true → (a && b && c) ≡ true
all-three e f g = rw (e, f, g) refl

-- a map's first node, and what is left of it
module _ (nodes : List Node) (bits at : ℕ) (t : is_tree nodes (suc bits) at ≡ true) where
  parts : (nat_lt at (length nodes) ≡ true) × (is_tree nodes bits (child nodes at 0) ≡ true) × (is_tree nodes bits (child nodes at 1) ≡ true)
  parts = and-parts (nat_lt at (length nodes)) (is_tree nodes bits (child nodes at 0)) (is_tree nodes bits (child nodes at 1)) t

  tree-within : at < length nodes
  tree-within = let e : nat_lt at (length nodes) ≡ true = parts.0 in grind (arith, nat_tests)

  child-tree : (bit : ℕ) → is_tree nodes bits (child nodes at bit) ≡ true
  child-tree zero = parts.1
  child-tree (suc bit) = by (slice_get nodes at) refl
    where
      by : (o : Option Node) → slice_get nodes at ≡ o → is_tree nodes bits (branch (slice_get nodes at) (suc bit)) ≡ true
      by None e = subst (λ (o : Option Node). is_tree nodes bits (branch o (suc bit)) ≡ true) (sym e) (subst (λ (o : Option Node). is_tree nodes bits (branch o 1) ≡ true) e parts.2)
      by (Some n) e = subst (λ (o : Option Node). is_tree nodes bits (branch o (suc bit)) ≡ true) (sym e) (subst (λ (o : Option Node). is_tree nodes bits (branch o 1) ≡ true) e parts.2)

-- ---- one node more

module _ (nodes : List Node) (x : Node) where
  kept-tree : (bits at : ℕ) → is_tree nodes bits at ≡ true → is_tree (nodes ++ x ∷ []) bits at ≡ true
  kept-tree zero at t = refl
  kept-tree (suc bits) at t =
      let l : at < length nodes = tree-within nodes bits at t in
      let n : length (nodes ++ x ∷ []) ≡ length nodes + 1 = length-push nodes x in
      let same : slice_get nodes at ≡ slice_get (nodes ++ x ∷ []) at = sym (get-old nodes x at l) in
      let e : nat_lt at (length (nodes ++ x ∷ [])) ≡ true = (let m : at < length (nodes ++ x ∷ []) = omega (arith, l, n) in grind (arith, nat_tests)) in
      all-three e (subst (λ (o : Option Node). is_tree (nodes ++ x ∷ []) bits (branch o 0) ≡ true) same (kept-tree bits (child nodes at 0) (child-tree nodes bits at t 0)))
      (subst (λ (o : Option Node). is_tree (nodes ++ x ∷ []) bits (branch o 1) ≡ true) same (kept-tree bits (child nodes at 1) (child-tree nodes bits at t 1)))

  kept : (bits at key : ℕ) → is_tree nodes bits at ≡ true → found (nodes ++ x ∷ []) bits at key ≡ found nodes bits at key
  kept zero at key t = refl
  kept (suc bits) at key t =
      ap (λ o. found (nodes ++ x ∷ []) bits (branch o (key % 2)) (key / 2)) (get-old nodes x at (tree-within nodes bits at t))
      ∙ kept bits (child nodes at (key % 2)) (key / 2) (child-tree nodes bits at t (key % 2))

  pub pushed-grows : BeginsEmpty nodes → (new : List Node) → new ≡ nodes ++ x ∷ [] → Grows nodes new
  pushed-grows b new e = subst (Grows nodes) (sym e) (record {
    first = get-old nodes x 0 (slice_get_within nodes 0 empty b);
    trees = kept-tree;
    same = kept;
  })

  pub pushed-node : (new : List Node) → new ≡ nodes ++ x ∷ [] → IsNode new x.even x.odd (length nodes)
  pushed-node new e = record {
    within = let c : length (nodes ++ x ∷ []) ≡ length nodes + 1 = length-push nodes x in let d = ap length e in omega (arith, c, d);
    is = ap (λ xs. slice_get xs (length nodes)) e ∙ get-new nodes x;
  }

grows-on : (a b c : List Node) → Grows a b → Grows b c → Grows a c
grows-on a b c g h = record { first = h.first ∙ g.first; trees = λ bits at t. h.trees bits at (g.trees bits at t); same = λ bits at key t. h.same bits at key (g.trees bits at t) ∙ g.same bits at key t }

-- ---- one key more

-- behind a bit of the key
module _ (old mid new : List Node) (at bits key value left set : ℕ) (t : is_tree old (suc bits) at ≡ true) (g : Grows old mid) (h : Grows mid new) (w : IsWith mid bits left (found old bits (child old at (key % 2))) (key / 2) value) where
  halves : (k : ℕ) → k < 2 ^ suc bits → k / 2 < 2 ^ bits
  halves k b = let p : 2 ^ suc bits ≡ 2 ^ bits * 2 = pow-suc 2 bits in omega (arith, b, p)

  old-tree : (bit : ℕ) → is_tree new bits (child old at bit) ≡ true
  old-tree bit = h.trees bits (child old at bit) (g.trees bits (child old at bit) (child-tree old bits at t bit))

  old-child : (bit k : ℕ) → found new bits (child old at bit) k ≡ found old bits (child old at bit) k
  old-child bit k = (grows-on old mid new g h).same bits (child old at bit) k (child-tree old bits at t bit)

  new-child : (k : ℕ) → k / 2 < 2 ^ bits → key / 2 < 2 ^ bits → found new bits left (k / 2) ≡ (if nat_eq (k / 2) (key / 2) then Some value else found old bits (child old at (key % 2)) (k / 2))
  new-child k x y = h.same bits left (k / 2) w.there ∙ w.each (k / 2) x y

  equal-halves : (k : ℕ) → k % 2 ≡ key % 2 → nat_eq (k / 2) (key / 2) ≡ nat_eq k key
  equal-halves k e = by (nat_eq k key) refl
    where
      by : (b : Bool) → nat_eq k key ≡ b → nat_eq (k / 2) (key / 2) ≡ b
      by true q = let z : k ≡ key = grind (arith, nat_tests) in ap (λ n. nat_eq (n / 2) (key / 2)) z ∙ (let y : nat_eq (key / 2) (key / 2) ≡ true = grind (arith, nat_tests) in y)
      by false q = let z : ¬ k ≡ key = grind (arith, nat_tests) in let y : ¬ k / 2 ≡ key / 2 = (λ s. z (omega (arith, s, e))) in grind (arith, nat_tests, y)

  -- a node that has the half of the key made anew, and the other one as it was
  module _ (n : Node) (is : slice_get new set ≡ Some n) (within : set < length new) (made : branch (Some n) (key % 2) ≡ left) (other : (bit : ℕ) → bit < 2 → ¬ bit ≡ key % 2 → branch (Some n) bit ≡ child old at bit) where
    side : (bit : ℕ) → bit < 2 → is_tree new bits (branch (Some n) bit) ≡ true
    side bit l = by (nat_eq bit (key % 2)) refl
      where
        by : (b : Bool) → nat_eq bit (key % 2) ≡ b → is_tree new bits (branch (Some n) bit) ≡ true
        by true q = let z : bit ≡ key % 2 = grind (arith, nat_tests) in subst (λ (x : ℕ). is_tree new bits x ≡ true) (sym (ap (branch (Some n)) z ∙ made)) (h.trees bits left w.there)
        by false q = let z : ¬ bit ≡ key % 2 = grind (arith, nat_tests) in subst (λ (x : ℕ). is_tree new bits x ≡ true) (sym (other bit l z)) (old-tree bit)

    pub with-one : IsWith new (suc bits) set (found old (suc bits) at) key value
    with-one = record {
      there = all-three (let e : nat_lt set (length new) ≡ true = grind (arith, nat_tests) in e)
          (subst (λ (o : Option Node). is_tree new bits (branch o 0) ≡ true) (sym is) (side 0 (omega arith)))
          (subst (λ (o : Option Node). is_tree new bits (branch o 1) ≡ true) (sym is) (side 1 (omega arith)));
      each = λ k x y. by k (halves k x) (halves key y) (nat_eq (k % 2) (key % 2)) refl;
    }
      where
        by : (k : ℕ) → k / 2 < 2 ^ bits → key / 2 < 2 ^ bits → (b : Bool) → nat_eq (k % 2) (key % 2) ≡ b →
            found new (suc bits) set k ≡ (if nat_eq k key then Some value else found old (suc bits) at k)
        by k x y true q =
            let z : k % 2 ≡ key % 2 = grind (arith, nat_tests) in
            ap (λ o. found new bits (branch o (k % 2)) (k / 2)) is ∙ ap (λ c. found new bits (branch (Some n) c) (k / 2)) z ∙ ap (λ c. found new bits c (k / 2)) made
            ∙ new-child k x y ∙ ap (λ b. if b then Some value else found old bits (child old at (key % 2)) (k / 2)) (equal-halves k z)
            ∙ ap (λ c. if nat_eq k key then Some value else found old bits (child old at c) (k / 2)) (sym z)
        by k x y false q =
            let z : ¬ k % 2 ≡ key % 2 = grind (arith, nat_tests) in
            let d : ¬ k ≡ key = (λ e. z (ap (λ m. m % 2) e)) in
            let f : nat_eq k key ≡ false = grind (arith, nat_tests, d) in
            ap (λ o. found new bits (branch o (k % 2)) (k / 2)) is ∙ ap (λ c. found new bits c (k / 2)) (other (k % 2) (omega arith) z)
            ∙ old-child (k % 2) (k / 2) ∙ ap (λ b. if b then Some value else found old bits (child old at (k % 2)) (k / 2)) (sym f)

-- ---- looking into a map

pub found-next : (nodes : List Node) (left at rest : ℕ) → 0 < left → found nodes left at rest ≡ found nodes (left - 1) (child nodes at (rest % 2)) (rest / 2)
found-next nodes zero at rest l = absurd (omega (arith, l))
found-next nodes (suc left) at rest l = let e : left ≡ suc left - 1 = omega arith in ap (λ n. found nodes n (child nodes at (rest % 2)) (rest / 2)) e

pub bit-is : (rest : ℕ) → bit_of (nat_eq (rest % 2) 1) ≡ rest % 2
bit-is rest = by (nat_eq (rest % 2) 1) refl
  where
    by : (b : Bool) → nat_eq (rest % 2) 1 ≡ b → bit_of b ≡ rest % 2
    by true e = let z : rest % 2 ≡ 1 = grind (arith, nat_tests) in sym z
    by false e = let z : ¬ rest % 2 ≡ 1 = grind (arith, nat_tests) in let y : rest % 2 ≡ 0 = omega (arith, z) in sym y

-- ---- as the calls say it

module _ (old new : Maps) where
  pub keeps : new.bits ≡ old.bits → Grows old.nodes.items new.nodes.items → Keeps (family old) (family new)
  unfolding family
  keeps b g = record {
    bits = b;
    there = λ map t. subst (λ (n : ℕ). is_tree new.nodes.items n map ≡ true) (sym b) (g.trees old.bits map t);
    same = λ map key t. ap (λ n. found new.nodes.items n map key) b ∙ g.same old.bits map key t;
  }

  pub has_more : (map key value made : ℕ) → key < 2 ^ (family old).bits → new.bits ≡ old.bits → IsWith new.nodes.items old.bits made (found old.nodes.items old.bits map) key value → HasMore (family old) (family new) map key value made
  unfolding family
  has_more map key value made l b w = record {
    there = subst (λ (n : ℕ). is_tree new.nodes.items n made ≡ true) (sym b) w.there;
    each = λ other k. ap (λ n. found new.nodes.items n made other) b ∙ w.each other k l;
  }

  pub is-tree : (map : ℕ) → IsMap (family old) map → is_tree old.nodes.items old.bits map ≡ true
  unfolding family
  is-tree map t = t

-- ---- the empty map

no-branch : (bit : ℕ) → branch (Some empty) bit ≡ 0
no-branch zero = refl
no-branch (suc bit) = refl

module _ (nodes : List Node) (b : BeginsEmpty nodes) where
  empty-tree : (bits : ℕ) → is_tree nodes bits 0 ≡ true
  empty-tree zero = refl
  empty-tree (suc bits) = all-three (let l : 0 < length nodes = slice_get_within nodes 0 empty b in let e : nat_lt 0 (length nodes) ≡ true = grind (arith, nat_tests) in e)
      (subst (λ (o : Option Node). is_tree nodes bits (branch o 0) ≡ true) (sym b) (empty-tree bits)) (subst (λ (o : Option Node). is_tree nodes bits (branch o 1) ≡ true) (sym b) (empty-tree bits))

  nothing-in : (bits key : ℕ) → found nodes bits 0 key ≡ None
  nothing-in zero key = refl
  nothing-in (suc bits) key = ap (λ o. found nodes bits (branch o (key % 2)) (key / 2)) b ∙ ap (λ c. found nodes bits c (key / 2)) (no-branch (key % 2)) ∙ nothing-in bits (key / 2)

pub begins_empty : (maps : Maps) → BeginsEmpty maps.nodes.items → IsEmpty (family maps) 0
unfolding family
begins_empty maps b = record { there = empty-tree maps.nodes.items b maps.bits; nothing = nothing-in maps.nodes.items b maps.bits }

pub bits_are : (maps : Maps) → (family maps).bits ≡ maps.bits
unfolding family
bits_are maps = refl
