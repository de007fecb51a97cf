-- Texts that are cut at their first or at their last mark.
use Rattle.std.proofs.Common.{◌≡◌, ◌≢◌, ℕ, suc, ◌<◌, ◌==◌, List, [], ◌∷◌, ◌++◌, length, get_or, take, drop, refl, sym, ap, ◌∙◌, subst, arith, IfNone, IfSome, MatchOption, Option, Some, None}
use denote.Ref.{Bor}
use Rattle.std.specs.List.{Contains, after_first, before_first, position_or_len}
use Rattle.std.specs.Str.Pattern.{RFindsChar, SplitsAroundMatch}
use Rattle.std.proofs.lemmas.List.{get_or_default, take-append-drop}
use Rattle.std.proofs.lemmas.List.Elements.{Contains-append_right}
use Rattle.std.proofs.lemmas.Str.Pattern.{IsSplitOnceResult, NoCharPasses-char, drop_at_char, split_once_first, split_parts}
use Rattle.crypto_text.specs.Cut.{IsCutAtFirst, IsCutAtLast}

-- the mark stands where two parts are joined
pub Contains-joined : (mark : ℕ) (front back : List ℕ) → Contains (front ++ mark ∷ back) mark
Contains-joined mark front back = Contains-append_right front (mark ∷ back) mark (0, omega arith, refl)

rest_lacks : (mark c : ℕ) (rest : List ℕ) → ¬ Contains (c ∷ rest) mark → ¬ Contains rest mark
rest_lacks mark c rest none found = none (suc found.0, omega (arith, found.1), found.2)

-- two ways to join a text at its first mark are one
pub first_cut_once : (mark : ℕ) (a b c d : List ℕ) → a ++ mark ∷ b ≡ c ++ mark ∷ d → ¬ Contains a mark → ¬ Contains c mark → (a ≡ c) × (b ≡ d)
first_cut_once mark [] b [] d same first second = (refl, ap (drop 1) same)
first_cut_once mark [] b (y ∷ c) d same first second = absurd (second (0, omega arith, sym (ap (λ (t : List ℕ). get_or t 0 0) same)))
first_cut_once mark (x ∷ a) b [] d same first second = absurd (first (0, omega arith, ap (λ (t : List ℕ). get_or t 0 0) same))
first_cut_once mark (x ∷ a) b (y ∷ c) d same first second =
    let head : x ≡ y = ap (λ (t : List ℕ). get_or t 0 0) same in
    let tail = first_cut_once mark a b c d (ap (drop 1) same) (rest_lacks mark x a first) (rest_lacks mark y c second) in
    let whole : (x ∷ a) ≡ (y ∷ c) = rw (head, tail.0) refl in
    (whole, tail.1)

-- and so are two ways to join it at its last mark
pub last_cut_once : (mark : ℕ) (a b c d : List ℕ) → a ++ mark ∷ b ≡ c ++ mark ∷ d → ¬ Contains b mark → ¬ Contains d mark → (a ≡ c) × (b ≡ d)
last_cut_once mark [] b [] d same b_last d_last = (refl, cc)
last_cut_once mark [] b (y ∷ c) d same b_last d_last =
    let tail : b ≡ c ++ mark ∷ d = cc in
    absurd (b_last (subst (λ l. Contains l mark) (sym tail) (Contains-joined mark c d)))
last_cut_once mark (x ∷ a) b [] d same b_last d_last =
    let tail : a ++ mark ∷ b ≡ d = cc in
    absurd (d_last (subst (λ l. Contains l mark) tail (Contains-joined mark a b)))
last_cut_once mark (x ∷ a) b (y ∷ c) d same b_last d_last =
    let head : x ≡ y = cc in
    let tail : a ++ mark ∷ b ≡ c ++ mark ∷ d = cc in
    let rest = last_cut_once mark a b c d tail b_last d_last in
    let front : a ≡ c = rest.0 in
    (cc, rest.1)

pub IsCutAtFirst-once : (mark : ℕ) (text a b c d : List ℕ) → IsCutAtFirst mark text a b → IsCutAtFirst mark text c d → (a ≡ c) × (b ≡ d)
IsCutAtFirst-once mark text a b c d one other = first_cut_once mark a b c d (sym one.whole ∙ other.whole) one.first other.first

pub IsCutAtLast-once : (mark : ℕ) (text a b c d : List ℕ) → IsCutAtLast mark text a b → IsCutAtLast mark text c d → (a ≡ c) × (b ≡ d)
IsCutAtLast-once mark text a b c d one other = last_cut_once mark a b c d (sym one.whole ∙ other.whole) one.last other.last

-- a text where no index has the mark
pub lacks_by_index : (mark : ℕ) (text : List ℕ) → ((i : ℕ) → i < length text → get_or text i 0 ≢ mark) → ¬ Contains text mark
lacks_by_index mark text none found = none found.0 found.1 (get_or_default text found.0 0 mark found.1 ∙ found.2)

pub Contains-from_index : (mark : ℕ) (text : List ℕ) (i : ℕ) → i < length text → get_or text i 0 ≡ mark → Contains text mark
Contains-from_index mark text i lt is = (i, lt, get_or_default text i mark 0 lt ∙ is)

-- ---- what `split_once` gives

pub first_cut : (mark : ℕ) (text : List ℕ) (r : Option (Bor (List ℕ) × Bor (List ℕ))) → mark < 128 → IsSplitOnceResult mark text r
    → MatchOption r (¬ Contains text mark) (λ parts. IsCutAtFirst mark text parts.0.now parts.1.now)
first_cut mark text None ascii split = lacks_by_index mark text (split_parts mark text None split ascii)
first_cut mark text (Some parts) ascii split =
    let cut = split_parts mark text (Some parts) split ascii in
    record { whole = cut.0; first = lacks_by_index mark parts.0.now cut.1 }

pub first_cut-front : (mark : ℕ) (text : List ℕ) (r : Option (Bor (List ℕ) × Bor (List ℕ))) → mark < 128 → IsSplitOnceResult mark text r
    → IfSome r (λ parts. parts.0.now ≡ before_first (λ byte. byte == mark) text)
first_cut-front mark text None ascii split = tt
first_cut-front mark text (Some parts) ascii split = (split_once_first mark text (Some parts) split ascii).1

pub first_cut-back : (mark : ℕ) (text : List ℕ) (r : Option (Bor (List ℕ) × Bor (List ℕ))) → mark < 128 → IsSplitOnceResult mark text r
    → IfSome r (λ parts. parts.1.now ≡ after_first (λ byte. byte == mark) text)
first_cut-back mark text None ascii split = tt
first_cut-back mark text (Some parts) ascii split = (split_once_first mark text (Some parts) split ascii).2

pub first_cut-whole : (mark : ℕ) (text : List ℕ) (r : Option (Bor (List ℕ) × Bor (List ℕ))) → mark < 128 → IsSplitOnceResult mark text r
    → IfNone r (position_or_len (λ byte. byte == mark) text ≡ length text)
first_cut-whole mark text None ascii split = split_once_first mark text None split ascii
first_cut-whole mark text (Some parts) ascii split = tt

-- ---- what `rsplit_once` gives

pub last_cut : (mark : ℕ) (text : List ℕ) (r : Option (Bor (List ℕ) × Bor (List ℕ))) → mark < 128
    → MatchOption r (RFindsChar mark text None) (λ x. SplitsAroundMatch (RFindsChar mark) text x.0.now x.1.now)
    → MatchOption r (¬ Contains text mark) (λ x. IsCutAtLast mark text x.0.now x.1.now)
last_cut mark text None ascii none = λ found. NoCharPasses-char mark text found.0 none ascii found.1 (get_or_default text found.0 0 mark found.1 ∙ found.2)
last_cut mark text (Some x) ascii cut =
    let i : ℕ = cut.0 in
    let j : ℕ = cut.1 in
    let tail : drop i text ≡ mark ∷ drop j text = drop_at_char mark text i j cut.2.1 ascii in
    record {
      whole = rw (cut.3, cut.4) (sym (take-append-drop i text) ∙ ap (λ l. take i text ++ l) tail);
      last = λ found.
          let there = rw cut.4 at found in
          NoCharPasses-char mark (drop j text) there.0 cut.2.0 ascii there.1 (get_or_default (drop j text) there.0 0 mark there.1 ∙ there.2);
    }
