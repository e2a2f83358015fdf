-- What the program prints. Each text is whole lines, which end with LF. Whole numbers are decimal.
use Rattle.std.specs.Prelude.{ℕ, ℤ, List, ◌++◌, codes, decimal}
use Rattle.std.specs.Fmt.{signed_decimal}
use Rattle.host_text.specs.Report.{report_text}
use Rattle.taming_db.specs.declared.fault.TamingRule.{TamingRule}
use Rattle.taming_db.specs.declared.fault.TamingRule.TheVariants as taming
use Rattle.je_top.specs.Outcome.{Outcome, usage, missing, too_long, failed, taming_refused, accepted, refused, replied, thrown, spent, init_thrown, init_spent, not_built}

abbrev pub usage_text : List ℕ
usage_text = codes "usage: joee check TAMING FILE... | run TAMING SCRIPT FILE... | gen N\n"

abbrev pub missing_text : List ℕ → List ℕ
missing_text name = codes "missing " ++ name ++ codes "\n"

abbrev pub too_long_text : List ℕ → List ℕ
too_long_text name = codes "toolong " ++ name ++ codes "\n"

abbrev pub read_text : List ℕ → List ℕ
read_text name = codes "read " ++ name ++ codes "\n"

abbrev pub said_of_taming : TamingRule → List ℕ
said_of_taming taming.NotToml = codes "1 NotToml"
said_of_taming taming.BadShape = codes "2 BadShape"
said_of_taming taming.UnknownClass = codes "3 UnknownClass"
said_of_taming taming.UnknownMember = codes "4 UnknownMember"
said_of_taming taming.Wild = codes "5 Wild"
said_of_taming taming.FalseHonorary = codes "6 FalseHonorary"
said_of_taming taming.Twice = codes "7 Twice"

abbrev pub taming_text : ℕ → TamingRule → List ℕ
taming_text table rule = codes "taming " ++ decimal table ++ codes " " ++ said_of_taming rule ++ codes "\n"

abbrev pub accepted_text : List ℕ
accepted_text = codes "accepted\n"

abbrev pub reply_text : ℤ → List ℕ
reply_text value = codes "reply i:" ++ signed_decimal value ++ codes "\n"

abbrev pub thrown_text : List ℕ
thrown_text = codes "thrown\n"

abbrev pub spent_text : List ℕ
spent_text = codes "spent\n"

-- a load that didn't come to its end: the class, and how its initializers ended
abbrev pub init_text : List ℕ → List ℕ → List ℕ
init_text class end = codes "init " ++ class ++ codes " " ++ end ++ codes "\n"

abbrev pub not_built_text : List ℕ → List ℕ
not_built_text name = codes "notbuilt " ++ name ++ codes "\n"

-- the text that tells of what a call came to
abbrev pub text_of : Outcome → List ℕ
text_of usage = usage_text
text_of (missing name) = missing_text name
text_of (too_long name) = too_long_text name
text_of (failed name) = read_text name
text_of (taming_refused table rule) = taming_text table rule
text_of accepted = accepted_text
text_of (refused sources found) = report_text sources found
text_of (replied value) = reply_text value
text_of thrown = thrown_text
text_of spent = spent_text
text_of (init_thrown class) = init_text class (codes "thrown")
text_of (init_spent class) = init_text class (codes "spent")
text_of (not_built name) = not_built_text name
