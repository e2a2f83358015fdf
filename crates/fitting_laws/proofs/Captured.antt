-- What is handed over to new objects fits whatever the constant strings of the program.
use Rattle.std.proofs.Common.{◌≡◌, ℕ, zero, suc, ◌+◌, List, ◌++◌, map, length, Option, Some, None, refl, sym, ap, ◌∙◌}
use Rattle.std.proofs.lemmas.List.Elements.{All-weaker}
use Rattle.je_core.specs.declared.types.ClassId.{ClassId}
use Rattle.je_core.specs.declared.types.Ty.{Ty}
use Rattle.je_core.specs.Core.{CoreCapture, CoreClass, CoreProgram}
use Rattle.je_classes.specs.Hierarchy.{class_at}
use Rattle.je_classes.specs.Subtypes.{class_type}
use Rattle.je_fitting.specs.Expressions.{Begins, Body, CaptureFits, CapturesFit, Leads, at_local, at_this, handed_to, handed_upwards, here, outer_count, places_up_to, through}
use Rattle.typing_laws.specs.Fitting.{with_texts}
use Rattle.fitting_laws.proofs.Below.{agrees-texts, subtype-texts}

module _ (q : CoreProgram) (texts : List (List ℕ)) where
  handed-same : (f g : Option ClassId → List (ClassId × ℕ)) → ((c : Option ClassId) → f c ≡ g c) → (c : ClassId) (o : Option CoreClass) → handed_to f c o ≡ handed_to g c o
  handed-same f g h c None = refl
  handed-same f g h c (Some class) = ap (λ xs. xs ++ map (λ at. (c, at)) (places_up_to (outer_count class.enclosing + class.captured))) (h class.superclass)

  upwards-texts : (n : ℕ) (c : Option ClassId) → handed_upwards (with_texts q texts) n c ≡ handed_upwards q n c
  upwards-texts n None = refl
  upwards-texts zero (Some c) = refl
  upwards-texts (suc n) (Some c) = handed-same (handed_upwards (with_texts q texts) n) (handed_upwards q n) (λ d. upwards-texts n d) c (class_at q c)

  begins-texts : (body : Body) {o : Option ℕ} {t : Ty} → Begins q body o t → Begins (with_texts q texts) body o t
  begins-texts body (at_local e) = at_local e
  begins-texts body (at_this e) = at_this e

  leads-texts : (body : Body) {t u : Ty} {path : List (ClassId × ℕ)} → Leads q body t path u → Leads (with_texts q texts) body t path u
  leads-texts body here = here
  leads-texts body (through {t = t} {c = c} below there own hidden k) = through (subtype-texts q texts t (class_type c) ∙ below) there own hidden (leads-texts body k)

  capture-texts : (body : Body) (c : CoreCapture) → CaptureFits q body c → CaptureFits (with_texts q texts) body c
  capture-texts body c k = record {
    from = k.from;
    to = k.to;
    field = k.field;
    begins = begins-texts body k.begins;
    leads = leads-texts body k.leads;
    there = k.there;
    agree = agrees-texts q texts k.to k.field.ty ∙ k.agree;
  }

  pub captures-texts : (body : Body) (class : ClassId) (captures : List CoreCapture) → CapturesFit q body class captures → CapturesFit (with_texts q texts) body class captures
  captures-texts body class captures k = record {
    fields = k.fields ∙ sym (upwards-texts (length q.classes) (Some class));
    each = All-weaker (CaptureFits q body) (CaptureFits (with_texts q texts) body) (λ c h. capture-texts body c h) captures k.each;
  }
