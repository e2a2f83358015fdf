-- One name that opens the steps of evaluation and what members are made of.
use Rattle.std.specs.Prelude.{ℕ}
use Rattle.je_java.specs.way.Opened.{opened as the_steps}
use Rattle.je_java.specs.library.Builders.{new_builder, builder_of_text, append, append_text, append_truth, append_char, append_int, append_long, delete_char_at, set_char_at}
use Rattle.je_java.specs.library.Numbers.{parse_int, parse_long, hex_of_int, of_int, of_long, of_ints, of_longs}
use Rattle.je_java.specs.library.Objects.{identity}
use Rattle.je_java.specs.library.RowObjects.{new_row, value_at}
use Rattle.je_java.specs.library.Strings.{new_text, new_part, text_of_chars, text_of_truth, text_of_char, text_of_int, text_of_long, char_at, comparison, joined, tested_by, equality, place_of_text, place_of_unit, replacement, part_from, part_between}

unfoldable pub opened : ℕ
unfolding the_steps new_builder builder_of_text append append_text append_truth append_char append_int append_long delete_char_at set_char_at parse_int parse_long hex_of_int of_int of_long of_ints of_longs identity new_row value_at new_text new_part text_of_chars text_of_truth text_of_char text_of_int text_of_long char_at comparison joined tested_by equality place_of_text place_of_unit replacement part_from part_between
opened = 0
