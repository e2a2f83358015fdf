-- What no source writes, by what was met where the class stands.
use Rattle.std.proofs.Common.{◌≡◌, ℕ, List, refl, sym, ap}
use Rattle.std.specs.Prelude.{Option}
use Rattle.std.specs.List.{find}
use Rattle.je_scopes.specs.Headers.{members_in}
use Rattle.je_scopes.specs.Sites.{Written, behind_new, declared, in_library}
use Rattle.je_typing.specs.Judged.{Judged, bind, gives}
use Rattle.body_typing.specs.Bodies.{Met}
use Rattle.class_typing.specs.Constructors.{no_cycle}
use Rattle.class_typing.specs.Members.{MembersDone, class_members, followed_by}
use Rattle.class_typing.specs.Places.{stands_at}
use Rattle.member_forms.specs.declared.walk.ClassWalk.{ClassWalk}
use Rattle.member_forms.specs.Seen.{known_of, program_of, round_of}
use Rattle.type_decl.specs.way.Walks.{anonymous_constructor, members_from, unwritten, written_of}
use Rattle.type_decl.specs.way.Unwritten.{unwritten_for, unwritten_if, whole_for}

module _ (w : ClassWalk) (met : List Met) (standing : Option Met) (is : find (stands_at w.class.0) met ≡ standing) where
  unwritten_is : (written : Written) → written ≡ written_of w → unwritten w met written ≡ unwritten_for w standing written
  unwritten_is in_library e = refl
  unwritten_is (declared d) e = sym (ap (unwritten_if w) e)
  unwritten_is (behind_new word t ms) e = ap (anonymous_constructor w) is

  pub whole_is : (hidden : ℕ) → class_members (program_of w) (known_of w) w.class.0 (round_of w) met hidden ≡ whole_for w standing hidden
  unfolding class_members whole_for
  whole_is hidden =
      ap (λ (further : Judged MembersDone). bind (members_from w hidden 0 (members_in (written_of w)))
      (λ (d : MembersDone). bind further (λ (f : MembersDone). bind (no_cycle d.calls) (λ (done : Unit {0}). gives (followed_by d f)))))
      (unwritten_is (written_of w) refl)
