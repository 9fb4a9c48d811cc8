-- A loop that counts the items at the front of a list that pass a test.
use Rattle.std.proofs.lemmas.List.Sums.{prefix_len-drop_all, prefix_len-drop_no, prefix_len-drop_yes}

pub ruleset prefixes = (prefix_len-drop_all, prefix_len-drop_no, prefix_len-drop_yes)
