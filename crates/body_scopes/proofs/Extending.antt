-- A scope that is added to has all of the earlier one.
use Rattle.std.proofs.Common.{ℕ, List, [], ◌∷◌, ◌++◌, true, false, refl, sym, ap, ◌∙◌}
use Rattle.std.specs.Prelude.{Bool}
use Rattle.std.proofs.lemmas.List.{append_assoc}
use Rattle.name_typing.specs.Program.{LocalVariable}
use Rattle.body_typing.specs.FinalVariables.{Scope}
use Rattle.body_typing.specs.Bodies.{given_if, with_classes_of, with_local, with_local_class}
use Rattle.body_scopes.specs.Extending.{Extends, IsEndOf, with_lists_of}

pub extends_itself : (s : Scope) → Extends s s
extends_itself s = record { locals = ([], refl); local_classes = ([], refl); given = ([], refl); kept = refl }

end-further : {A : Type 0} (xs ys zs : List A) → IsEndOf xs ys → IsEndOf ys zs → IsEndOf xs zs
end-further xs ys zs (front, e) (more, h) = (more ++ front, h ∙ ap (λ l. more ++ l) e ∙ sym (append_assoc more front xs))

pub extends_further : (a b c : Scope) → Extends a b → Extends b c → Extends a c
extends_further a b c e h = record {
  locals = end-further a.place.here.locals b.place.here.locals c.place.here.locals e.locals h.locals;
  local_classes = end-further a.place.here.local_classes b.place.here.local_classes c.place.here.local_classes e.local_classes h.local_classes;
  given = end-further a.given b.given c.given e.given h.given;
  kept = ap (with_lists_of a) h.kept ∙ e.kept;
}

given-if : (is_given : Bool) (n : ℕ) (ns : List ℕ) → IsEndOf ns (given_if is_given n ns)
given-if true n ns = (n ∷ [], refl)
given-if false n ns = ([], refl)

pub local_extends : (is_given : Bool) (v : LocalVariable) (s : Scope) → Extends s (with_local is_given v s)
local_extends is_given v s = record { locals = (v ∷ [], refl); local_classes = ([], refl); given = given-if is_given v.number s.given; kept = refl }

pub class_extends : (c : ℕ) (s : Scope) → Extends s (with_local_class c s)
class_extends c s = record { locals = ([], refl); local_classes = (c ∷ [], refl); given = ([], refl); kept = refl }

-- so does the earlier one with the local classes alone
pub classes_extend : (before after : Scope) → Extends before after → Extends before (with_classes_of after before)
classes_extend before after e = record { locals = ([], refl); local_classes = e.local_classes; given = ([], refl); kept = refl }
