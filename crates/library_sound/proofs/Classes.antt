-- The classes of the library in the order of the table, and each member of theirs.
use Rattle.std.proofs.Common.{ℕ, List, [], refl}
use Rattle.std.specs.Prelude.{codes}
use Rattle.std.specs.Int.{w32, w64}
use Rattle.je_base.specs.declared.span.NameId.{NameId}
use Rattle.je_core.specs.declared.value.Value.TheVariants.{Null}
use Rattle.je_table.specs.declared.classes.LibraryClass.{LibraryClass}
use Rattle.je_table.specs.declared.classes.LibraryClass.TheVariants as class
use Rattle.je_table.specs.Library.{class_row}
use Rattle.je_classes.specs.Hierarchy.{library_class, object_class}
use Rattle.je_java.specs.LibraryClasses.{builder_class, string_class}
use Rattle.je_java.specs.LibraryMembers.{has_own_makers}
use Rattle.je_java.specs.library.Builders.{builder_member}
use Rattle.je_java.specs.library.Numbers.{integer_member, long_member, math_member}
use Rattle.je_java.specs.library.Objects.{object_member}
use Rattle.je_java.specs.library.RowObjects.{row_member}
use Rattle.je_java.specs.library.Strings.{string_member}
use Rattle.je_sound.specs.Objects.{const_row, device_interfaces, immutable_class, int_row, text_row}
use Rattle.library_classes.specs.Library.{methods_due, rows}
use Rattle.library_places.specs.Places.{library_place}
use Rattle.class_names.specs.Words.{class_words, further_words, library_words, member_words}
use Rattle.text_members.specs.Finding.{is_prefix, is_suffix}
use Rattle.text_numbers.specs.Measures.{absolute, bit_count, greater, less}
use Rattle.plain_programs.specs.Wild.{is_wild}
use Rattle.eval_sound.specs.Safety.{Setting}
use Rattle.eval_sound.proofs.Moves.{all-more, any, fits-more, safe-ret, safe-seq}
use Rattle.eval_sound.proofs.Growth.{grows-on}
use Rattle.eval_sound.proofs.Results.{safe-result}
use Rattle.eval_sound.proofs.Types.{Known}
use Rattle.eval_sound.proofs.Values.{int-fits}
use Rattle.library_sound.proofs.Arguments.{given-at, pay-plain, pay-product, pay-receiver, pay-result}
use Rattle.library_sound.proofs.Cases.{◌⋄◌, none, library_number, Each, maker, makes, member, method, paid, paid-void, received, received-void, runs, wild}
use Rattle.library_sound.proofs.Holders.{builder-holds, const-row-due, int-row-due, string-holds, text-row-due}
use Rattle.library_sound.proofs.Numbers.{safe-hex, safe-of_int, safe-of_ints, safe-of_long, safe-of_longs, safe-parse_int, safe-parse_long}
use Rattle.library_sound.proofs.Texts.{safe-char_at, safe-chars, safe-comparison, safe-equality, safe-joined, safe-new_text, safe-part_between, safe-part_from, safe-place_of_text, safe-place_of_unit, safe-replacement, safe-tested_by, safe-text_of_char, safe-text_of_chars, safe-text_of_int, safe-text_of_long, safe-text_of_truth}
use Rattle.library_sound.proofs.RowObjects.{RowClass, receive-row, safe-new_row, safe-value_at}
use Rattle.library_sound.proofs.Builders.{safe-append_char, safe-append_int, safe-append_long, safe-append_text, safe-append_truth, safe-builder_of_text, safe-delete_char_at, safe-new_builder, safe-set_char_at}
use Rattle.library_sound.proofs.Throwables.{safe-identity}

-- the members of a class of the library
abbrev pub Members : Setting → (List ℕ → NameId) → ℕ → LibraryClass → Type 0
Members S number n c = Each S number (library_number n) 0 (methods_due number (class_row c))

const-row-class : RowClass const_row
unfolding library_class const_row int_row text_row string_class builder_class device_interfaces
const-row-class = record { rows = refl; no_text = refl; no_builder = refl; no_device = refl }

int-row-class : RowClass int_row
unfolding library_class const_row int_row text_row string_class builder_class device_interfaces
int-row-class = record { rows = refl; no_text = refl; no_builder = refl; no_device = refl }

text-row-class : RowClass text_row
unfolding library_class const_row int_row text_row string_class builder_class device_interfaces
text-row-class = record { rows = refl; no_text = refl; no_builder = refl; no_device = refl }

module _ (S : Setting) (fit : Known S.program) where
  pub of-object : Members S fit.library.number 0 class.Object
  unfolding library_place library_class rows object_class object_member has_own_makers is_wild library_words class_words member_words further_words
  of-object =
      member refl refl (runs fit _ _ _ _ refl λ c w this given f h. paid fit (pay-plain fit this given) h λ l g a. safe-identity fit (fits-more g (f refl)) (given-at 0 a refl)) ⋄
      wild refl refl (codes "hashCode") (record { name = refl; there = refl; other = refl }) ⋄
      member refl refl (runs fit _ _ _ _ refl λ c w this given f h. paid-void fit (pay-plain fit this given) h λ l g a. safe-ret _ any) ⋄
      wild refl refl (codes "toString") (record { name = refl; there = refl; other = refl }) ⋄
      none

  pub of-string : Members S fit.library.number 1 class.String
  unfolding library_place library_class rows string_class object_class string_member library_words class_words member_words further_words has_own_makers
  of-string =
      method refl (codes "charAt") (record { name = refl; there = refl; other = refl }) (runs fit _ _ _ _ refl λ c w this given f h. received fit (pay-plain fit this given) (string-holds fit) (f refl) h λ l o u units a. safe-char_at fit units (given-at 0 a refl)) ⋄
      method refl (codes "compareTo") (record { name = refl; there = refl; other = refl }) (runs fit _ _ _ _ refl λ c w this given f h. received fit (pay-receiver fit given (string-holds fit) (f refl)) (string-holds fit) (f refl) h λ l o u units a. safe-comparison fit units (given-at 0 a refl)) ⋄
      method refl (codes "concat") (record { name = refl; there = refl; other = refl }) (runs fit _ _ _ _ refl λ c w this given f h. received fit (pay-result fit this given) (string-holds fit) (f refl) h λ l o u units a. safe-joined fit units (given-at 0 a refl)) ⋄
      method refl (codes "endsWith") (record { name = refl; there = refl; other = refl }) (runs fit _ _ _ _ refl λ c w this given f h. received fit (pay-receiver fit given (string-holds fit) (f refl)) (string-holds fit) (f refl) h λ l o u units a. safe-tested_by fit is_suffix units (given-at 0 a refl)) ⋄
      method refl (codes "equals") (record { name = refl; there = refl; other = refl }) (runs fit _ _ _ _ refl λ c w this given f h. received fit (pay-receiver fit given (string-holds fit) (f refl)) (string-holds fit) (f refl) h λ l o u units a. safe-equality fit units (given-at 0 a refl)) ⋄
      method refl (codes "hashCode") (record { name = refl; there = refl; other = refl }) (runs fit _ _ _ _ refl λ c w this given f h. received fit (pay-receiver fit given (string-holds fit) (f refl)) (string-holds fit) (f refl) h λ l o u units a. safe-ret _ (int-fits S.program l _)) ⋄
      method refl (codes "indexOf") (record { name = refl; there = refl; other = refl }) (runs fit _ _ _ _ refl λ c w this given f h. received fit (pay-product fit (string-holds fit) (f refl) (given-at 0 h refl)) (string-holds fit) (f refl) h λ l o u units a. safe-place_of_text fit units (given-at 0 a refl)) ⋄
      method refl (codes "indexOf") (record { name = refl; there = refl; other = refl }) (runs fit _ _ _ _ refl λ c w this given f h. received fit (pay-receiver fit given (string-holds fit) (f refl)) (string-holds fit) (f refl) h λ l o u units a. safe-place_of_unit fit units (given-at 0 a refl)) ⋄
      method refl (codes "length") (record { name = refl; there = refl; other = refl }) (runs fit _ _ _ _ refl λ c w this given f h. received fit (pay-plain fit this given) (string-holds fit) (f refl) h λ l o u units a. safe-ret _ (int-fits S.program l _)) ⋄
      maker refl refl refl (makes fit _ _ _ _ refl λ c w given h. safe-seq (pay-result fit Null given) λ l g. safe-text_of_chars fit (given-at 0 (all-more g h) refl)) ⋄
      method refl (codes "replace") (record { name = refl; there = refl; other = refl }) (runs fit _ _ _ _ refl λ c w this given f h. received fit (pay-result fit this given) (string-holds fit) (f refl) h λ l o u units a. safe-replacement fit units (given-at 0 a refl) (given-at 1 a refl)) ⋄
      method refl (codes "startsWith") (record { name = refl; there = refl; other = refl }) (runs fit _ _ _ _ refl λ c w this given f h. received fit (pay-receiver fit given (string-holds fit) (f refl)) (string-holds fit) (f refl) h λ l o u units a. safe-tested_by fit is_prefix units (given-at 0 a refl)) ⋄
      method refl (codes "substring") (record { name = refl; there = refl; other = refl }) (runs fit _ _ _ _ refl λ c w this given f h. received fit (pay-result fit this given) (string-holds fit) (f refl) h λ l o u units a. safe-part_from fit units (given-at 0 a refl)) ⋄
      method refl (codes "substring") (record { name = refl; there = refl; other = refl }) (runs fit _ _ _ _ refl λ c w this given f h. received fit (pay-result fit this given) (string-holds fit) (f refl) h λ l o u units a. safe-part_between fit units (given-at 0 a refl) (given-at 1 a refl)) ⋄
      method refl (codes "toCharArray") (record { name = refl; there = refl; other = refl }) (runs fit _ _ _ _ refl λ c w this given f h. received fit (pay-result fit this given) (string-holds fit) (f refl) h λ l o u units a. safe-chars fit units) ⋄
      method refl (codes "toString") (record { name = refl; there = refl; other = refl }) (runs fit _ _ _ _ refl λ c w this given f h. received fit (pay-plain fit this given) (string-holds fit) (f refl) h λ l o u units a. safe-ret _ u) ⋄
      method refl (codes "trim") (record { name = refl; there = refl; other = refl }) (runs fit _ _ _ _ refl λ c w this given f h. received fit (pay-result fit this given) (string-holds fit) (f refl) h λ l o u units a. safe-new_text fit _) ⋄
      method refl (codes "valueOf") (record { name = refl; there = refl; other = refl }) (runs fit _ _ _ _ refl λ c w this given f h. paid fit (pay-result fit this given) h λ l g a. safe-text_of_truth fit (given-at 0 a refl)) ⋄
      method refl (codes "valueOf") (record { name = refl; there = refl; other = refl }) (runs fit _ _ _ _ refl λ c w this given f h. paid fit (pay-result fit this given) h λ l g a. safe-text_of_char fit (given-at 0 a refl)) ⋄
      method refl (codes "valueOf") (record { name = refl; there = refl; other = refl }) (runs fit _ _ _ _ refl λ c w this given f h. paid fit (pay-result fit this given) h λ l g a. safe-text_of_int fit (given-at 0 a refl)) ⋄
      method refl (codes "valueOf") (record { name = refl; there = refl; other = refl }) (runs fit _ _ _ _ refl λ c w this given f h. paid fit (pay-result fit this given) h λ l g a. safe-text_of_long fit (given-at 0 a refl)) ⋄
      none

  pub of-builder : Members S fit.library.number 2 class.StringBuilder
  unfolding library_place library_class rows string_class builder_class builder_member library_words class_words member_words further_words has_own_makers
  of-builder =
      method refl (codes "append") (record { name = refl; there = refl; other = refl }) (runs fit _ _ _ _ refl λ c w this given f h. received fit (pay-result fit this given) (builder-holds fit) (f refl) h λ l o u units a. safe-append_text fit units u (given-at 0 a refl)) ⋄
      method refl (codes "append") (record { name = refl; there = refl; other = refl }) (runs fit _ _ _ _ refl λ c w this given f h. received fit (pay-result fit this given) (builder-holds fit) (f refl) h λ l o u units a. safe-append_truth fit units u (given-at 0 a refl)) ⋄
      method refl (codes "append") (record { name = refl; there = refl; other = refl }) (runs fit _ _ _ _ refl λ c w this given f h. received fit (pay-result fit this given) (builder-holds fit) (f refl) h λ l o u units a. safe-append_char fit units u (given-at 0 a refl)) ⋄
      method refl (codes "append") (record { name = refl; there = refl; other = refl }) (runs fit _ _ _ _ refl λ c w this given f h. received fit (pay-result fit this given) (builder-holds fit) (f refl) h λ l o u units a. safe-append_int fit units u (given-at 0 a refl)) ⋄
      method refl (codes "append") (record { name = refl; there = refl; other = refl }) (runs fit _ _ _ _ refl λ c w this given f h. received fit (pay-result fit this given) (builder-holds fit) (f refl) h λ l o u units a. safe-append_long fit units u (given-at 0 a refl)) ⋄
      method refl (codes "charAt") (record { name = refl; there = refl; other = refl }) (runs fit _ _ _ _ refl λ c w this given f h. received fit (pay-plain fit this given) (builder-holds fit) (f refl) h λ l o u units a. safe-char_at fit units (given-at 0 a refl)) ⋄
      method refl (codes "deleteCharAt") (record { name = refl; there = refl; other = refl }) (runs fit _ _ _ _ refl λ c w this given f h. received fit (pay-receiver fit given (builder-holds fit) (f refl)) (builder-holds fit) (f refl) h λ l o u units a. safe-delete_char_at fit units u (given-at 0 a refl)) ⋄
      method refl (codes "length") (record { name = refl; there = refl; other = refl }) (runs fit _ _ _ _ refl λ c w this given f h. received fit (pay-plain fit this given) (builder-holds fit) (f refl) h λ l o u units a. safe-ret _ (int-fits S.program l _)) ⋄
      maker refl refl refl (makes fit _ _ _ _ refl λ c w given h. safe-seq (pay-plain fit Null given) λ l g. safe-new_builder fit []) ⋄
      maker refl refl refl (makes fit _ _ _ _ refl λ c w given h. safe-seq (pay-result fit Null given) λ l g. safe-builder_of_text fit (given-at 0 (all-more g h) refl)) ⋄
      method refl (codes "setCharAt") (record { name = refl; there = refl; other = refl }) (runs fit _ _ _ _ refl λ c w this given f h. received-void fit (pay-receiver fit given (builder-holds fit) (f refl)) (builder-holds fit) (f refl) h λ l o u units a. safe-set_char_at fit units u (given-at 0 a refl) (given-at 1 a refl)) ⋄
      method refl (codes "toString") (record { name = refl; there = refl; other = refl }) (runs fit _ _ _ _ refl λ c w this given f h. received fit (pay-result fit this given) (builder-holds fit) (f refl) h λ l o u units a. safe-new_text fit units) ⋄
      none

  pub of-integer : Members S fit.library.number 3 class.Integer
  unfolding library_place library_class rows string_class integer_member has_own_makers
  of-integer =
      member refl refl (runs fit _ _ _ _ refl λ c w this given f h. paid fit (pay-plain fit this given) h λ l g a. safe-of_int fit bit_count (given-at 0 a refl)) ⋄
      member refl refl (runs fit _ _ _ _ refl λ c w this given f h. paid fit (pay-plain fit this given) h λ l g a. safe-parse_int fit (given-at 0 a refl)) ⋄
      member refl refl (runs fit _ _ _ _ refl λ c w this given f h. paid fit (pay-result fit this given) h λ l g a. safe-hex fit (given-at 0 a refl)) ⋄
      member refl refl (runs fit _ _ _ _ refl λ c w this given f h. paid fit (pay-result fit this given) h λ l g a. safe-text_of_int fit (given-at 0 a refl)) ⋄
      none

  pub of-long : Members S fit.library.number 4 class.Long
  unfolding library_place library_class rows string_class long_member has_own_makers
  of-long =
      member refl refl (runs fit _ _ _ _ refl λ c w this given f h. paid fit (pay-plain fit this given) h λ l g a. safe-parse_long fit (given-at 0 a refl)) ⋄
      member refl refl (runs fit _ _ _ _ refl λ c w this given f h. paid fit (pay-result fit this given) h λ l g a. safe-text_of_long fit (given-at 0 a refl)) ⋄
      none

  pub of-math : Members S fit.library.number 5 class.Math
  unfolding library_place library_class rows math_member has_own_makers
  of-math =
      member refl refl (runs fit _ _ _ _ refl λ c w this given f h. paid fit (pay-plain fit this given) h λ l g a. safe-of_int fit (absolute w32) (given-at 0 a refl)) ⋄
      member refl refl (runs fit _ _ _ _ refl λ c w this given f h. paid fit (pay-plain fit this given) h λ l g a. safe-of_long fit (absolute w64) (given-at 0 a refl)) ⋄
      member refl refl (runs fit _ _ _ _ refl λ c w this given f h. paid fit (pay-plain fit this given) h λ l g a. safe-of_ints fit greater (given-at 0 a refl) (given-at 1 a refl)) ⋄
      member refl refl (runs fit _ _ _ _ refl λ c w this given f h. paid fit (pay-plain fit this given) h λ l g a. safe-of_longs fit greater (given-at 0 a refl) (given-at 1 a refl)) ⋄
      member refl refl (runs fit _ _ _ _ refl λ c w this given f h. paid fit (pay-plain fit this given) h λ l g a. safe-of_ints fit less (given-at 0 a refl) (given-at 1 a refl)) ⋄
      member refl refl (runs fit _ _ _ _ refl λ c w this given f h. paid fit (pay-plain fit this given) h λ l g a. safe-of_longs fit less (given-at 0 a refl) (given-at 1 a refl)) ⋄
      none

  pub of-token : Members S fit.library.number 14 class.Token
  unfolding library_place library_class rows object_member has_own_makers
  of-token = member refl refl (runs fit _ _ _ _ refl λ c w this given f h. paid-void fit (pay-plain fit this given) h λ l g a. safe-ret _ any) ⋄ none

  pub of-const-row : Members S fit.library.number 15 class.ConstRow
  unfolding library_place library_class rows string_class const_row int_row text_row immutable_class row_member library_words class_words member_words further_words has_own_makers
  of-const-row =
      method refl (codes "get") (record { name = refl; there = refl; other = refl }) (runs fit _ _ _ _ refl λ c w this given f h. safe-seq (pay-plain fit this given) λ l g. safe-result (receive-row fit const_row (const-row-due fit.library.number) const-row-class (fits-more g (f refl)) λ last g1 o count r. safe-value_at fit const_row (const-row-due fit.library.number) const-row-class r (given-at 0 (all-more (grows-on g g1) h) refl))) ⋄
      maker refl refl refl (makes fit _ _ _ _ refl λ c w given h. safe-seq (pay-result fit Null given) λ l g. safe-new_row fit const_row (const-row-due fit.library.number) const-row-class (given-at 0 (all-more g h) refl)) ⋄
      method refl (codes "size") (record { name = refl; there = refl; other = refl }) (runs fit _ _ _ _ refl λ c w this given f h. safe-seq (pay-plain fit this given) λ l g. safe-result (receive-row fit const_row (const-row-due fit.library.number) const-row-class (fits-more g (f refl)) λ last g1 o count r. safe-ret _ (int-fits S.program last _))) ⋄
      none

  pub of-int-row : Members S fit.library.number 16 class.IntRow
  unfolding library_place library_class rows string_class const_row int_row text_row immutable_class row_member library_words class_words member_words further_words has_own_makers
  of-int-row =
      method refl (codes "get") (record { name = refl; there = refl; other = refl }) (runs fit _ _ _ _ refl λ c w this given f h. safe-seq (pay-plain fit this given) λ l g. safe-result (receive-row fit int_row (int-row-due fit.library.number) int-row-class (fits-more g (f refl)) λ last g1 o count r. safe-value_at fit int_row (int-row-due fit.library.number) int-row-class r (given-at 0 (all-more (grows-on g g1) h) refl))) ⋄
      maker refl refl refl (makes fit _ _ _ _ refl λ c w given h. safe-seq (pay-result fit Null given) λ l g. safe-new_row fit int_row (int-row-due fit.library.number) int-row-class (given-at 0 (all-more g h) refl)) ⋄
      method refl (codes "size") (record { name = refl; there = refl; other = refl }) (runs fit _ _ _ _ refl λ c w this given f h. safe-seq (pay-plain fit this given) λ l g. safe-result (receive-row fit int_row (int-row-due fit.library.number) int-row-class (fits-more g (f refl)) λ last g1 o count r. safe-ret _ (int-fits S.program last _))) ⋄
      none

  pub of-text-row : Members S fit.library.number 17 class.TextRow
  unfolding library_place library_class rows string_class const_row int_row text_row immutable_class row_member library_words class_words member_words further_words has_own_makers
  of-text-row =
      method refl (codes "get") (record { name = refl; there = refl; other = refl }) (runs fit _ _ _ _ refl λ c w this given f h. safe-seq (pay-plain fit this given) λ l g. safe-result (receive-row fit text_row (text-row-due fit.library.number) text-row-class (fits-more g (f refl)) λ last g1 o count r. safe-value_at fit text_row (text-row-due fit.library.number) text-row-class r (given-at 0 (all-more (grows-on g g1) h) refl))) ⋄
      maker refl refl refl (makes fit _ _ _ _ refl λ c w given h. safe-seq (pay-result fit Null given) λ l g. safe-new_row fit text_row (text-row-due fit.library.number) text-row-class (given-at 0 (all-more g h) refl)) ⋄
      method refl (codes "size") (record { name = refl; there = refl; other = refl }) (runs fit _ _ _ _ refl λ c w this given f h. safe-seq (pay-plain fit this given) λ l g. safe-result (receive-row fit text_row (text-row-due fit.library.number) text-row-class (fits-more g (f refl)) λ last g1 o count r. safe-ret _ (int-fits S.program last _))) ⋄
      none
