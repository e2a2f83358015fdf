-- Each class is judged, where all are.
use Rattle.std.proofs.Common.{◌≡◌, ℕ, zero, suc, ◌+◌, ◌<◌, length, subst, arith, zero-add}
use Rattle.std.specs.Prelude.{true}
use Rattle.je_core.specs.Core.{CoreProgram}
use Rattle.je_scopes.specs.Headers.{is_guest, members_in, site_at, span_in}
use Rattle.je_scopes.specs.Sites.{Written, behind_new, declared, in_library}
use Rattle.je_scopes.specs.Source.{Source}
use Rattle.je_typing.specs.Judged.{gives}
use Rattle.signature_typing.specs.Signatures.{Setting, anonymous_header, class_body, class_signatures, declared_header, members_from, signatures, signatures_from, whole, written_class}
use Rattle.elaborated_laws.specs.Elaborated.{IsElaborated}
use Rattle.elaborated_laws.proofs.Came.{came}
use Rattle.judged_laws.specs.Judged.{IsJudged, header_of}
use Rattle.judged_laws.specs.Laws.{ClassesAreJudged, signed}

module _ (s : Setting) where
  class-signed : (n c k : ℕ) → k < n → signatures_from s c n ≡ gives tt → class_signatures s (c + k) ≡ gives tt
  class-signed zero c k l e = absurd (omega (arith, l))
  class-signed (suc n) c zero l e =
      let here : c ≡ c + 0 = omega arith in
      subst (λ d. class_signatures s d ≡ gives tt) here
      (came (class_signatures s c) (λ done. signatures_from s (suc c) n) tt e).is
  class-signed (suc n) c (suc k) l e =
      let there : suc c + k ≡ c + suc k = omega arith in
      subst (λ d. class_signatures s d ≡ gives tt) there
      (class-signed n (suc c) k (omega (arith, l)) (came (class_signatures s c) (λ done. signatures_from s (suc c) n) tt e).rest)

  module _ (c : ℕ) where
    record Parts (w : Written) : Type 0 where
      header : header_of s c w ≡ gives tt
      members : members_from s c 0 (members_in w) ≡ gives tt
      whole : whole s c (span_in w) ≡ gives tt

    parts : (w : Written) → is_guest w ≡ true → written_class s c w ≡ gives tt → Parts w
    parts in_library g e = absurd cc
    parts (declared d) g e =
        let w = declared d in
        let h = came (declared_header s c d) (λ done. class_body s c (members_in w) (span_in w)) tt e in
        let m = came (members_from s c 0 (members_in w)) (λ done. whole s c (span_in w)) tt h.rest in
        record { header = h.is; members = m.is; whole = m.rest }
    parts (behind_new word t body) g e =
        let w = behind_new word t body in
        let h = came (anonymous_header s c t) (λ done. class_body s c (members_in w) (span_in w)) tt e in
        let m = came (members_from s c 0 (members_in w)) (λ done. whole s c (span_in w)) tt h.rest in
        record { header = h.is; members = m.is; whole = m.rest }

    is-judged : is_guest (site_at s.sites c).written ≡ true → class_signatures s c ≡ gives tt → IsJudged s c
    unfolding class_signatures
    is-judged g e =
        let p = parts (site_at s.sites c).written g e in
        record { header = p.header; members = p.members; whole = p.whole }

pub classes_are_judged : (source : Source) (program : CoreProgram) (e : IsElaborated source program) →
    ClassesAreJudged source program e
unfolding signatures
classes_are_judged source program e sites c le l =
    is-judged (signed source) c (sites.guests c le l)
    (subst (λ d. class_signatures (signed source) d ≡ gives tt) (zero-add c)
    (class-signed (signed source) (length source.sites) 0 c l e.signed))
