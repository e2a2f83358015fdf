-- The parts of conjunctions.
use Rattle.std.proofs.Common.{◌≡◌, refl}
use Rattle.std.specs.Prelude.{Bool, true, false, ◌&&◌, not}

pub two : {a b : Bool} → (a && b) ≡ true → (a ≡ true) × (b ≡ true)
two {a = true} {b = b} e = (refl, e)
two {a = false} {b = b} e = absurd cc

pub three : {a b c : Bool} → (a && b && c) ≡ true → (a ≡ true) × (b ≡ true) × (c ≡ true)
three e = let q = two e in let r = two q.0 in (r.0, r.1, q.1)

pub four : {a b c d : Bool} → (a && b && c && d) ≡ true → (a ≡ true) × (b ≡ true) × (c ≡ true) × (d ≡ true)
four e = let q = two e in let r = three q.0 in (r.0, r.1, r.2, q.1)

pub five : {a b c d f : Bool} → (a && b && c && d && f) ≡ true → (a ≡ true) × (b ≡ true) × (c ≡ true) × (d ≡ true) × (f ≡ true)
five e = let q = two e in let r = four q.0 in (r.0, r.1, r.2, r.3, q.1)

pub seven : {a b c d f g h : Bool} → (a && b && c && d && f && g && h) ≡ true → (a ≡ true) × (b ≡ true) × (c ≡ true) × (d ≡ true) × (f ≡ true) × (g ≡ true) × (h ≡ true)
seven e = let q = two e in let r = two q.0 in let s = five r.0 in (s.0, s.1, s.2, s.3, s.4, r.1, q.1)

pub both : {a b : Bool} → a ≡ true → b ≡ true → (a && b) ≡ true
both {a = true} {b = b} e f = f
both {a = false} {b = b} e f = e

pub is_false : {a : Bool} → not a ≡ true → a ≡ false
is_false {a = true} e = absurd cc
is_false {a = false} e = refl

pub is_not : {a : Bool} → a ≡ false → not a ≡ true
is_not {a = true} e = absurd cc
is_not {a = false} e = refl
