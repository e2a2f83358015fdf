-- What the members of Integer, Long and Math do is safe.
use Rattle.std.proofs.Common.{ℕ, ℤ, List, Option}
use Rattle.je_core.specs.declared.object.Obj.{Obj}
use Rattle.je_core.specs.declared.types.Base.TheVariants as base
use Rattle.je_core.specs.declared.value.Value.{Value}
use Rattle.je_fitting.specs.Types.{of, int, string}
use Rattle.je_java.specs.Raised.{number_format}
use Rattle.je_java.specs.library.Numbers.{hex_of_int, of_int, of_ints, of_long, of_longs, parse_int, parse_long, parsed}
use Rattle.eval_sound.specs.Safety.{Any, Context, Fitting, Safe, Setting}
use Rattle.eval_sound.proofs.Moves.{safe-bind, safe-ret}
use Rattle.eval_sound.proofs.Standing.{raises-format}
use Rattle.eval_sound.proofs.Types.{Known}
use Rattle.eval_sound.proofs.Values.{int-fits, long-fits}
use Rattle.library_sound.proofs.Arguments.{IsGiven, given-more, safe-int, safe-long, safe-or_raise, safe-text_or_null}
use Rattle.library_sound.proofs.Texts.{safe-new_text}

module _ {S : Setting} (fit : Known S.program) where
  safe-parsed : {c : Context} {w : List Obj} {given : List Value} (parse : List ℕ → Option ℤ) → IsGiven S w given 0 string → Safe S c w Any (parsed S.program parse given)
  safe-parsed parse h = safe-bind (safe-text_or_null fit h) λ later l text q. safe-or_raise fit number_format (raises-format S.program fit.library) _

  pub safe-parse_int : {c : Context} {w : List Obj} {given : List Value} → IsGiven S w given 0 string → Safe S c w (Fitting S.program int) (parse_int S.program given)
  unfolding parse_int
  safe-parse_int h = safe-bind (safe-parsed _ h) λ later l number q. safe-ret _ (int-fits S.program later number)

  pub safe-parse_long : {c : Context} {w : List Obj} {given : List Value} → IsGiven S w given 0 string → Safe S c w (Fitting S.program (of base.Long)) (parse_long S.program given)
  unfolding parse_long
  safe-parse_long h = safe-bind (safe-parsed _ h) λ later l number q. safe-ret _ (long-fits S.program later number)

  pub safe-hex : {c : Context} {w : List Obj} {given : List Value} → IsGiven S w given 0 int → Safe S c w (Fitting S.program string) (hex_of_int given)
  unfolding hex_of_int
  safe-hex h = safe-bind (safe-int fit h) λ later l number q. safe-new_text fit _

  pub safe-of_int : {c : Context} {w : List Obj} {given : List Value} (f : ℤ → ℤ) → IsGiven S w given 0 int → Safe S c w (Fitting S.program int) (of_int f given)
  unfolding of_int
  safe-of_int f h = safe-bind (safe-int fit h) λ later l x q. safe-ret _ (int-fits S.program later _)

  pub safe-of_long : {c : Context} {w : List Obj} {given : List Value} (f : ℤ → ℤ) → IsGiven S w given 0 (of base.Long) → Safe S c w (Fitting S.program (of base.Long)) (of_long f given)
  unfolding of_long
  safe-of_long f h = safe-bind (safe-long fit h) λ later l x q. safe-ret _ (long-fits S.program later _)

  pub safe-of_ints : {c : Context} {w : List Obj} {given : List Value} (f : ℤ → ℤ → ℤ) → IsGiven S w given 0 int → IsGiven S w given 1 int → Safe S c w (Fitting S.program int) (of_ints f given)
  unfolding of_ints
  safe-of_ints f h k = safe-bind (safe-int fit h) λ later l x q. safe-bind (safe-int fit (given-more l k)) λ last l' y r. safe-ret _ (int-fits S.program last _)

  pub safe-of_longs : {c : Context} {w : List Obj} {given : List Value} (f : ℤ → ℤ → ℤ) → IsGiven S w given 0 (of base.Long) → IsGiven S w given 1 (of base.Long) →
      Safe S c w (Fitting S.program (of base.Long)) (of_longs f given)
  unfolding of_longs
  safe-of_longs f h k = safe-bind (safe-long fit h) λ later l x q. safe-bind (safe-long fit (given-more l k)) λ last l' y r. safe-ret _ (long-fits S.program last _)
