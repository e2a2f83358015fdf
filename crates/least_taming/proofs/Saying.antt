-- The least text enables nothing.
use lib.Utf8.{encode}
use Rattle.std.proofs.Common.{◌≡◌, ℕ, List, [], refl}
use Rattle.std.specs.Prelude.{Ok, Err}
use Rattle.std.specs.Float.Numeral.{scan_numeral}
use Rattle.toml.specs.Parse.{atom, expression, key_equals, line, lines, parse_document, skip_bom, val}
use Rattle.toml.specs.Tables.{along_dots, along_header, at_key, define}
use Rattle.toml_parser.specs.Lexical.{skip_from, skip_ws}
use Rattle.toml_parser.specs.Numbers.{decimal_number, number, plain_number, underscore_fits, unquoted, word_len, word_value}
use Rattle.toml_parser.specs.Strings.{key_after, simple_key}
use Rattle.taming_db.specs.Rows.{Row}
use Rattle.taming_db.specs.Taming.{Says, document}
use Rattle.taming_db.specs.declared.fault.TamingRule.{TamingRule}
use Rattle.taming_db.proofs.OneSaying.{says_one}
use Rattle.least_taming.specs.Least.{least_text}

pub says_nothing : Says least_text (Ok [])
unfolding encode parse_document lines skip_from skip_bom line expression key_equals key_after simple_key skip_ws val atom unquoted word_len word_value number decimal_number plain_number underscore_fits scan_numeral define along_header along_dots at_key
says_nothing = document (least_text, (refl, refl)) refl refl

rows_or_fault : (rows : List Row) (fault : ℕ × TamingRule) → ¬ (Ok rows ≡ Err fault)
rows_or_fault rows fault e = absurd cc

pub has_no_fault : (table : ℕ) (rule : TamingRule) → ¬ Says least_text (Err (table, rule))
has_no_fault table rule says = rows_or_fault [] (table, rule) (says_one least_text (Ok []) (Err (table, rule)) says_nothing says)
