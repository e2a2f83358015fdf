-- Worked rows: numbers written, read and measured.
use Rattle.std.proofs.Common.{◌≡◌, [], ◌∷◌, Some, None, true, refl}
use Rattle.std.specs.Prelude.{codes, pos, negsuc}
use Rattle.std.specs.Fmt.{digits}
use Rattle.std.specs.Int.{w32, w64, int_wrap}
use Rattle.text_numbers.specs.Measures.{absolute, bit_count, greater, less, ones_among}
use Rattle.text_numbers.specs.Reading.{parsed_int, parsed_long}
use Rattle.text_numbers.specs.Writing.{decimal_text, hex_text, truth_text}

least_int : decimal_text (negsuc 2147483647) ≡ codes "-2147483648"
unfolding digits
least_int = refl

zero_text : decimal_text (pos 0) ≡ codes "0"
unfolding digits
zero_text = refl

greatest_long : decimal_text (pos 9223372036854775807) ≡ codes "9223372036854775807"
unfolding digits
greatest_long = refl

minus_one_in_hex : hex_text (negsuc 0) ≡ codes "ffffffff"
unfolding digits
minus_one_in_hex = refl

no_leading_zeros : hex_text (pos 48879) ≡ codes "beef"
unfolding digits
no_leading_zeros = refl

zero_in_hex : hex_text (pos 0) ≡ codes "0"
unfolding digits
zero_in_hex = refl

truth : truth_text true ≡ codes "true"
truth = refl

least_int_read : parsed_int (codes "-2147483648") ≡ Some (negsuc 2147483647)
least_int_read = refl

one_below_the_least : parsed_int (codes "-2147483649") ≡ None
one_below_the_least = refl

one_above_the_greatest : parsed_int (codes "2147483648") ≡ None
one_above_the_greatest = refl

leading_zeros : parsed_int (codes "0007") ≡ Some (pos 7)
leading_zeros = refl

minus_zero : parsed_int (codes "-0") ≡ Some (pos 0)
minus_zero = refl

no_text : parsed_int [] ≡ None
no_text = refl

minus_alone : parsed_int (codes "-") ≡ None
minus_alone = refl

plus : parsed_int (codes "+1") ≡ None
plus = refl

letter_behind : parsed_int (codes "1a") ≡ None
letter_behind = refl

space_in_front : parsed_int (codes " 1") ≡ None
space_in_front = refl

digit_beyond_ascii : parsed_int (0x661 ∷ []) ≡ None
digit_beyond_ascii = refl

least_long_read : parsed_long (codes "-9223372036854775808") ≡ Some (negsuc 9223372036854775807)
least_long_read = refl

one_above_the_greatest_long : parsed_long (codes "9223372036854775808") ≡ None
one_above_the_greatest_long = refl

all_bits : bit_count (negsuc 0) ≡ pos 32
unfolding ones_among
all_bits = refl

bits_of_255 : bit_count (pos 255) ≡ pos 8
unfolding ones_among
bits_of_255 = refl

least_int_stays : absolute w32 (negsuc 2147483647) ≡ negsuc 2147483647
unfolding int_wrap
least_int_stays = refl

least_int_as_a_long : absolute w64 (negsuc 2147483647) ≡ pos 2147483648
unfolding int_wrap
least_int_as_a_long = refl

greater_of_two : greater (negsuc 2) (pos 2) ≡ pos 2
greater_of_two = refl

less_of_two : less (negsuc 2) (pos 2) ≡ negsuc 2
less_of_two = refl
