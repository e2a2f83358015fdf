-- Methods and constructors by their places among those that their class declares.
use Rattle.std.proofs.Common.{◌≡◌, ℕ, zero, suc, ◌+◌, ◌<◌, List, [], ◌∷◌, ◌++◌, get_or, length, take, map, refl, ap, sym, ◌∙◌, add-one, arith}
use Rattle.std.specs.Prelude.{Bool, true, false, Some, option_map, slice_get, if◌then◌else◌}
use Rattle.std.proofs.lemmas.List.{take-map}
use Rattle.std.proofs.lemmas.Option.{slice_get-get_or, slice_get-map}
use Rattle.declarations.specs.Declarations.{DeclaredMethod}
use Rattle.declarations.specs.View.{method_shown}
use Rattle.declarations.specs.declared.class.MethodDecl.{MethodDecl}
use Rattle.overriding.specs.Methods.{Method, own_from, own_method}
use Rattle.overriding.specs.Overrides.{no_constructor_clash}
use Rattle.signature_typing.specs.Signatures.{Setting, constructor_at, method_at, own_methods}
use Rattle.signature_steps.specs.Signed.{override_of}

-- ---- one more of them

if_more : (b : Bool) (m : Method) (xs ys : List Method) → (if b then xs ++ ys else m ∷ (xs ++ ys)) ≡ (if b then xs else m ∷ xs) ++ ys
if_more true m xs ys = refl
if_more false m xs ys = refl

abbrev pub one_of : ℕ → ℕ → DeclaredMethod → List Method
one_of c at m = if m.is_constructor then [] else own_method c at m ∷ []

one_behind : (c n at k : ℕ) (all : List DeclaredMethod) (m : DeclaredMethod) → n + at ≡ k → slice_get all at ≡ Some m → own_from c n (take (suc at) all) ≡ own_from c n (take at all) ++ one_of c k m
one_behind c n at k [] m h e = cc
one_behind c n zero k (x ∷ xs) m h e = let same : x ≡ m = cc in let place : n ≡ k = omega arith in (λ i. one_of c (place i) (same i))
one_behind c n (suc at) k (x ∷ xs) m h e =
    let later : own_from c (suc n) (take (suc at) xs) ≡ own_from c (suc n) (take at xs) ++ one_of c k m = one_behind c (suc n) at k xs m (omega arith) e in
    ap (λ (ms : List Method). if x.is_constructor then ms else own_method c n x ∷ ms) later
    ∙ if_more x.is_constructor (own_method c n x) (own_from c (suc n) (take at xs)) (one_of c k m)

pub one_more : (c at : ℕ) (all : List DeclaredMethod) (m : DeclaredMethod) → slice_get all at ≡ Some m → own_from c 0 (take (at + 1) all) ≡ own_from c 0 (take at all) ++ one_of c at m
one_more c at all m e = rw add-one (one_behind c 0 at at all m (omega arith) e)

-- ---- what a look at a place finds

pub found_is : (ms : List MethodDecl) (at : ℕ) (m : MethodDecl) → at < length ms → m ≡ get_or ms at m → slice_get ms at ≡ Some m
found_is ms at m within is = slice_get-get_or ms at m within ∙ ap Some (sym is)

pub declared_is : (s : Setting) (c at : ℕ) (ms : List MethodDecl) (m : MethodDecl) → map method_shown ms ≡ own_methods s c → slice_get ms at ≡ Some m → slice_get (own_methods s c) at ≡ Some (method_shown m)
declared_is s c at ms m own found =
    ap (λ (ds : List DeclaredMethod). slice_get ds at) (sym own) ∙ slice_get-map method_shown ms at ∙ ap (option_map method_shown) found

-- ---- a method at its place

pub override_is : (s : Setting) (c at : ℕ) (d : DeclaredMethod) (m : Method) → m ≡ own_method c at d → slice_get (own_methods s c) at ≡ Some d → method_at s c at (slice_get (own_methods s c) at) ≡ override_of s m
override_is s c at d m own found = ap (method_at s c at) found ∙ ap (override_of s) (sym own)

-- ---- a constructor at its place

pub constructor_is : (s : Setting) (c at : ℕ) (ms : List MethodDecl) (m : MethodDecl) → map method_shown ms ≡ own_methods s c → slice_get ms at ≡ Some m →
    constructor_at s c at (slice_get (own_methods s c) at) ≡ no_constructor_clash s.heads (map method_shown (take at ms)) (method_shown m)
constructor_is s c at ms m own found =
    let before : take at (own_methods s c) ≡ map method_shown (take at ms) = ap (take at) (sym own) ∙ take-map method_shown at ms in
    ap (constructor_at s c at) (declared_is s c at ms m own found) ∙ ap (λ (ds : List DeclaredMethod). no_constructor_clash s.heads ds (method_shown m)) before
