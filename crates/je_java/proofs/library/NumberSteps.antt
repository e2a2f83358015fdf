-- One lemma for each member of Integer, Long and Math.
use Rattle.std.proofs.Common.{◌≡◌, ℕ, List, Option, refl, arith}
use Rattle.std.specs.Prelude.{ℤ}
use Rattle.je_core.specs.declared.value.Value.{Value}
use Rattle.je_core.specs.Core.{CoreProgram}
use Rattle.je_java.specs.library.Numbers.{parsed, parse_int, parse_long, hex_of_int, of_int, of_long, of_ints, of_longs, integer_entries, long_entries, math_entries, integer_member, long_member, math_member}
use Rattle.je_java.proofs.Pairs.{Parts, ValueRel, int, long, Rel, Laws, Equal, Values}
use Rattle.je_java.proofs.Combinators.{values-more, rel-ret, rel-wrong, bind_equal}
use Rattle.je_java.proofs.MadeSteps.{rel-or_raise}
use Rattle.je_java.proofs.library.ArgumentSteps.{rel-int_argument, rel-long_argument, rel-text_or_null, EntriesRel, last, entry, rel-entry_of}
use Rattle.je_java.proofs.library.StringSteps.{rel-new_text, rel-text_of_int, rel-text_of_long}

module _ {R : Parts} (L : Laws R) where
  rel-parsed : {k : ℕ} {vs ws : List Value} (program : CoreProgram) (parse : List ℕ → Option ℤ) → Values R k vs ws → Rel R k Equal (parsed program parse vs) (parsed program parse ws)
  rel-parsed program parse qs = bind_equal (rel-text_or_null L qs 0) λ i l text. rel-or_raise L program _ _

  rel-parse_int : {k : ℕ} {vs ws : List Value} (program : CoreProgram) → Values R k vs ws → Rel R k (ValueRel R) (parse_int program vs) (parse_int program ws)
  unfolding parse_int
  rel-parse_int program qs = bind_equal (rel-parsed program _ qs) λ i l number. rel-ret _ _ int

  rel-parse_long : {k : ℕ} {vs ws : List Value} (program : CoreProgram) → Values R k vs ws → Rel R k (ValueRel R) (parse_long program vs) (parse_long program ws)
  unfolding parse_long
  rel-parse_long program qs = bind_equal (rel-parsed program _ qs) λ i l number. rel-ret _ _ long

  rel-hex_of_int : {k : ℕ} {vs ws : List Value} → Values R k vs ws → Rel R k (ValueRel R) (hex_of_int vs) (hex_of_int ws)
  unfolding hex_of_int
  rel-hex_of_int qs = bind_equal (rel-int_argument L qs 0) λ i l number. rel-new_text L _

  rel-of_int : {k : ℕ} {vs ws : List Value} (f : ℤ → ℤ) → Values R k vs ws → Rel R k (ValueRel R) (of_int f vs) (of_int f ws)
  unfolding of_int
  rel-of_int f qs = bind_equal (rel-int_argument L qs 0) λ i l x. rel-ret _ _ int

  rel-of_long : {k : ℕ} {vs ws : List Value} (f : ℤ → ℤ) → Values R k vs ws → Rel R k (ValueRel R) (of_long f vs) (of_long f ws)
  unfolding of_long
  rel-of_long f qs = bind_equal (rel-long_argument L qs 0) λ i l x. rel-ret _ _ long

  rel-of_ints : {k : ℕ} {vs ws : List Value} (f : ℤ → ℤ → ℤ) → Values R k vs ws → Rel R k (ValueRel R) (of_ints f vs) (of_ints f ws)
  unfolding of_ints
  rel-of_ints f qs = bind_equal (rel-int_argument L qs 0) λ i l x. bind_equal (rel-int_argument L (values-more L l qs) 1) λ j l' y. rel-ret _ _ int

  rel-of_longs : {k : ℕ} {vs ws : List Value} (f : ℤ → ℤ → ℤ) → Values R k vs ws → Rel R k (ValueRel R) (of_longs f vs) (of_longs f ws)
  unfolding of_longs
  rel-of_longs f qs = bind_equal (rel-long_argument L qs 0) λ i l x. bind_equal (rel-long_argument L (values-more L l qs) 1) λ j l' y. rel-ret _ _ long

  integer_entries-both : {k : ℕ} {vs ws : List Value} (program : CoreProgram) → Values R k vs ws → EntriesRel R k (integer_entries program vs) (integer_entries program ws)
  integer_entries-both program qs = entry (rel-of_int _ qs) (entry (rel-parse_int program qs) (entry (rel-hex_of_int qs) (entry (rel-text_of_int L qs) last)))

  long_entries-both : {k : ℕ} {vs ws : List Value} (program : CoreProgram) → Values R k vs ws → EntriesRel R k (long_entries program vs) (long_entries program ws)
  long_entries-both program qs = entry (rel-parse_long program qs) (entry (rel-text_of_long L qs) last)

  math_entries-both : {k : ℕ} {vs ws : List Value} → Values R k vs ws → EntriesRel R k (math_entries vs) (math_entries ws)
  math_entries-both qs =
      entry (rel-of_int _ qs) (entry (rel-of_long _ qs) (entry (rel-of_ints _ qs) (entry (rel-of_longs _ qs) (entry (rel-of_ints _ qs) (entry (rel-of_longs _ qs) last)))))

  pub rel-integer_member : {k : ℕ} {vs ws : List Value} (program : CoreProgram) (signature : List ℕ) → Values R k vs ws →
      Rel R k (ValueRel R) (integer_member program signature vs) (integer_member program signature ws)
  unfolding integer_member
  rel-integer_member program signature qs = rel-entry_of signature (integer_entries-both program qs) (rel-wrong L)

  pub rel-long_member : {k : ℕ} {vs ws : List Value} (program : CoreProgram) (signature : List ℕ) → Values R k vs ws →
      Rel R k (ValueRel R) (long_member program signature vs) (long_member program signature ws)
  unfolding long_member
  rel-long_member program signature qs = rel-entry_of signature (long_entries-both program qs) (rel-wrong L)

  pub rel-math_member : {k : ℕ} {vs ws : List Value} (signature : List ℕ) → Values R k vs ws → Rel R k (ValueRel R) (math_member signature vs) (math_member signature ws)
  unfolding math_member
  rel-math_member signature qs = rel-entry_of signature (math_entries-both qs) (rel-wrong L)
