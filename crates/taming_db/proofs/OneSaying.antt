-- A text says one thing alone.
use Rattle.std.proofs.Common.{◌≡◌, ℕ, List, Some, unwrap_or, refl, sym, ap, ◌∙◌}
use Rattle.std.proofs.lemmas.Option.{none-some}
use Rattle.taming_db.specs.Rows.{Found, rows_of}
use Rattle.taming_db.specs.Taming.{Says, no_toml, document}

same_some : {X : Type 0} {x y : X} → Some x ≡ Some y → x ≡ y
same_some {x = x} e = ap (λ o. unwrap_or o x) e

pub says_one : (bytes : List ℕ) (one other : Found) → Says bytes one → Says bytes other → one ≡ other
says_one bytes _ _ (no_toml n) (no_toml m) = refl
says_one bytes _ _ (no_toml n) (document {d} u p e) = absurd (none-some d (sym (n u) ∙ p))
says_one bytes _ _ (document {d} u p e) (no_toml n) = absurd (none-some d (sym (n u) ∙ p))
says_one bytes _ _ (document u p e) (document v q f) = sym e ∙ ap rows_of (same_some (sym p ∙ q)) ∙ f
