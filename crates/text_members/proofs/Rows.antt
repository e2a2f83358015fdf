-- Worked rows: what the members of String and StringBuilder give.
use Rattle.std.proofs.Common.{◌≡◌, [], ◌∷◌, Some, None, true, false, refl}
use Rattle.std.specs.Prelude.{codes, pos, negsuc}
use Rattle.std.specs.Int.{int_wrap}
use Rattle.text_members.specs.Parts.{unit_at, substring, substring_from, trimmed}
use Rattle.text_members.specs.Finding.{is_prefix, is_suffix, index_of, index_of_unit}
use Rattle.text_members.specs.Changes.{appended, has_room, replaced, with_unit, without_unit}
use Rattle.text_members.specs.Comparing.{is_same_text, compared, count_as_int, hash_code}

third_unit : unit_at (codes "abc") (pos 2) ≡ Some 99
third_unit = refl

unit_past_the_end : unit_at (codes "abc") (pos 3) ≡ None
unit_past_the_end = refl

unit_below_zero : unit_at (codes "abc") (negsuc 0) ≡ None
unit_below_zero = refl

middle_part : substring (codes "hamburger") (pos 4) (pos 8) ≡ Some (codes "urge")
middle_part = refl

empty_part_at_the_end : substring (codes "abc") (pos 3) (pos 3) ≡ Some []
empty_part_at_the_end = refl

part_from_a_place : substring_from (codes "unhappy") (pos 2) ≡ Some (codes "happy")
part_from_a_place = refl

part_from_past_the_end : substring_from (codes "abc") (pos 4) ≡ None
part_from_past_the_end = refl

part_turned_round : substring (codes "abc") (pos 1) (pos 0) ≡ None
part_turned_round = refl

part_past_the_end : substring (codes "abc") (pos 0) (pos 4) ≡ None
part_past_the_end = refl

part_below_zero : substring (codes "abc") (negsuc 0) (pos 2) ≡ None
part_below_zero = refl

trimmed_at_both_ends : trimmed (codes " \t a b\n ") ≡ codes "a b"
trimmed_at_both_ends = refl

trimmed_to_nothing : trimmed (codes "  ") ≡ []
trimmed_to_nothing = refl

hard_space_stays : trimmed (0xa0 ∷ []) ≡ 0xa0 ∷ []
hard_space_stays = refl

prefix : is_prefix (codes "he") (codes "hello") ≡ true
prefix = refl

longer_prefix : is_prefix (codes "he") (codes "h") ≡ false
longer_prefix = refl

suffix : is_suffix (codes "lo") (codes "hello") ≡ true
suffix = refl

longer_suffix : is_suffix (codes "lo") (codes "o") ≡ false
longer_suffix = refl

first_of_two_places : index_of (codes "hello") (codes "l") ≡ Some 2
first_of_two_places = refl

place_behind_a_false_start : index_of (codes "aab") (codes "ab") ≡ Some 1
place_behind_a_false_start = refl

empty_text_in_empty_text : index_of [] [] ≡ Some 0
empty_text_in_empty_text = refl

no_place : index_of (codes "hello") (codes "lx") ≡ None
no_place = refl

first_place_of_a_unit : index_of_unit (codes "hello") (pos 108) ≡ Some 2
first_place_of_a_unit = refl

unit_beyond_all : index_of_unit (codes "hello") (pos 65644) ≡ None
unit_beyond_all = refl

unit_below_all : index_of_unit (codes "hello") (negsuc 0) ≡ None
unit_below_all = refl

each_exchanged : replaced (codes "mesquite") 101 111 ≡ codes "mosquito"
each_exchanged = refl

second_set : with_unit (codes "hello") (pos 1) 117 ≡ Some (codes "hullo")
second_set = refl

none_set_past_the_end : with_unit (codes "hello") (pos 5) 117 ≡ None
none_set_past_the_end = refl

full_builder : has_room 99999999 1 ≡ true
full_builder = refl

overfull_builder : has_room 99999999 2 ≡ false
overfull_builder = refl

text_appended : appended (codes "ab") (codes "c") ≡ Some (codes "abc")
text_appended = refl

last_deleted : without_unit (codes "hello") (pos 4) ≡ Some (codes "hell")
last_deleted = refl

none_deleted_below_zero : without_unit (codes "hello") (negsuc 0) ≡ None
none_deleted_below_zero = refl

same_units : is_same_text (codes "abc") (codes "abc") ≡ true
same_units = refl

shorter_text : is_same_text (codes "abc") (codes "ab") ≡ false
shorter_text = refl

differing_units : compared (codes "abc") (codes "abd") ≡ negsuc 0
unfolding int_wrap
differing_units = refl

units_before_lengths : compared (codes "b") (codes "aaaa") ≡ pos 1
unfolding int_wrap
units_before_lengths = refl

lengths : compared [] (codes "xyz") ≡ negsuc 2
unfolding int_wrap
lengths = refl

count_beyond_all : count_as_int 2147483648 ≡ negsuc 2147483647
unfolding int_wrap
count_beyond_all = refl

hash : hash_code (codes "hello") ≡ pos 99162322
unfolding int_wrap
hash = refl

wrapped_hash : hash_code (codes "polygenelubricants") ≡ negsuc 2147483647
unfolding int_wrap
wrapped_hash = refl
