-- How many units at an end are blank, a unit more or none.
use Rattle.std.proofs.lemmas.List.Sums.{prefix_len-drop_yes, prefix_len-drop_no, prefix_len-drop_all, suffix_len-take_yes, suffix_len-take_no}

pub ruleset blanks =
    (prefix_len-drop_yes, prefix_len-drop_no, prefix_len-drop_all, suffix_len-take_yes, suffix_len-take_no)
