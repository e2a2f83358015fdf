-- What holds while the members of a class are judged, one after the other.
use Rattle.std.proofs.Common.{◌≡◌, ℕ, ◌+◌, ◌<◌, ◌≤◌, List, length, drop, get_or, take, refl, ap, sym, arith}
use Rattle.std.specs.Prelude.{Bool, true, false, if◌then◌else◌}
use Rattle.je_ast.specs.declared.decl.Member.{Member as Node}
use Rattle.je_ast.specs.Trees.{Members}
use Rattle.je_ast.specs.View.{member_view, member_views_of}
use Rattle.je_typing.specs.declared.fault.Refusal.{Refusal}
use Rattle.je_typing.specs.Answers.{IsFault}
use Rattle.je_typing.specs.Judged.{gives, bind}
use Rattle.overriding.specs.Methods.{Method, own_from}
use Rattle.signature_typing.specs.Signatures.{Setting, is_callable, judged_member, members_from, own_methods, place_behind}
use Rattle.written_types.proofs.Walking.{walk_on, walk_fails}

-- of so many members the next has a place, behind these methods
pub record Judging (s : Setting) (c : ℕ) (all left : Members) (index at : ℕ) (earlier : List Method) : Type 0 where
  pub rest : members_from s c 0 all ≡ members_from s c at left
  pub methods : earlier ≡ own_from c 0 (take at (own_methods s c))
  pub few : at ≤ index

few_behind : (b : Bool) (at i : ℕ) → at ≤ i → (if b then at + 1 else at) ≤ i + 1
few_behind true at i f = omega arith
few_behind false at i f = omega arith

module _ (s : Setting) (c : ℕ) (ms : List Node) (i at : ℕ) (earlier : List Method) (m : Node) (within : i < length ms) (is : m ≡ get_or ms i m)
    (met : Judging s c (member_views_of ms) (member_views_of (drop i ms)) i at earlier) where
  goes_on : (next : ℕ) → place_behind at (member_view m) ≡ next → (done : Unit {0}) → judged_member s c at (member_view m) ≡ gives done →
      members_from s c 0 (member_views_of ms) ≡ members_from s c next (member_views_of (drop (i + 1) ms))
  goes_on next e done g =
      walk_on (λ (n : ℕ) (us : List Node). members_from s c n (member_views_of us)) ms i at _ m (judged_member s c at (member_view m)) next
      (λ us. ap (λ (n : ℕ). bind (judged_member s c at (member_view m)) (λ (d : Unit {0}). members_from s c n (member_views_of us))) e) within is met.rest done g

  pub member_on : (next : ℕ) (later : List Method) (done : Unit {0}) → next ≡ place_behind at (member_view m) → later ≡ own_from c 0 (take next (own_methods s c)) → judged_member s c at (member_view m) ≡ gives done →
      Judging s c (member_views_of ms) (member_views_of (drop (i + 1) ms)) (i + 1) next later
  member_on next later done p e g = record {
    rest = goes_on next (sym p) done g;
    methods = e;
    few = let f : at ≤ i = met.few in rw p (few_behind (is_callable (member_view m)) at i f);
  }

  pub member_fails : (r : Refusal) → IsFault (judged_member s c at (member_view m)) r → IsFault (members_from s c 0 (member_views_of ms)) r
  member_fails r f =
      walk_fails (λ (n : ℕ) (us : List Node). members_from s c n (member_views_of us)) ms i at _ m (judged_member s c at (member_view m)) (place_behind at (member_view m))
      (λ us. refl) within is met.rest r f
