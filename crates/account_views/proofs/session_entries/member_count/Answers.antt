use Rattle.std.proofs.Common.{◌≡◌, ℕ, ◌+◌, Bool, true, false, List, [], ◌∷◌, String, Global, length, string_bytes, not, cond, refl, ◌∙◌, arith, rules, tests}
use Rattle.std.specs.List.{filter}
use Rattle.std.specs.Map.{keys_of}
use Rattle.std.proofs.lemmas.Iterator.Consumers.{count_from_yields_List, YieldsList-from_filter, YieldsList-from_rest}
use Rattle.serde_json.specs.View.{members_view}
use Rattle.serde_json.proofs.Views.{Entry}
use Rattle.account_views.specs.SessionEntries.{entry_count, is_private}
use Rattle.account_views.proofs.session_entries.member_count.Goals as goal

-- the name isn't one of the server's
abbrev is_own : String Global → Bool
is_own name = not (is_private (string_bytes name))

-- a name counts once, if it is kept
counted : (private : Bool) (name : String Global) (names : List (String Global)) (n : ℕ) → length names ≡ n → length (cond (not private) (name ∷ names) names) ≡ cond private 0 1 + n
counted true name names n is = omega arith
counted false name names n is = omega arith

-- the names that are kept are as many as the entries
counts : (es : List Entry) → length (filter is_own (keys_of es)) ≡ entry_count (members_view es)
counts [] = refl
counts (e ∷ es) = counted (is_private (string_bytes e.0)) e.0 _ _ (counts es)

pub returns : goal.returns
returns c =
    let es = c.args.members.now.entries in
    count_from_yields_List c.filter.result c.count.result c.count.ensures.ran
    (YieldsList-from_filter _ is_own (YieldsList-from_rest (keys_of es) cc) c.filter.ensures.closure (λ x b q k. search (rules, tests)))
    ∙ counts es
