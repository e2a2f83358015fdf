-- What it is that headers and signatures of a class have no fault (JLS 8, 9).
use Rattle.std.specs.Prelude.{◌≡◌, ℕ}
use Rattle.je_scopes.specs.Headers.{members_in, site_at, span_in}
use Rattle.je_scopes.specs.Sites.{Written, behind_new, declared, in_library}
use Rattle.je_typing.specs.Judged.{Judged, gives}
use Rattle.signature_typing.specs.Signatures.{Setting, anonymous_header, declared_header, members_from, whole}

abbrev pub header_of : Setting → ℕ → Written → Judged (Unit {0})
header_of s c in_library = gives tt
header_of s c (declared d) = declared_header s c d
header_of s c (behind_new word t body) = anonymous_header s c t

-- what is written of it, from its header to the class as a whole
pub record IsJudged (s : Setting) (c : ℕ) : Type 0 where
  pub header : header_of s c (site_at s.sites c).written ≡ gives tt
  pub members : members_from s c 0 (members_in (site_at s.sites c).written) ≡ gives tt
  pub whole : whole s c (span_in (site_at s.sites c).written) ≡ gives tt
