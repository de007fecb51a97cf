-- The ASCII text has the tokens of the compact text, so it reads as the same value.
use Rattle.std.proofs.Common.{◌≡◌, ℕ, Bool, true, false, cond, List, [], ◌∷◌, ◌++◌, option_and_then, IsUtf8, refl, sym, ap, ap₂, ◌∙◌, subst, append_assoc, append-nil}
use Rattle.json.specs.Token.{Token}
use Rattle.json.specs.Word.{ends_word, word}
use Rattle.json.specs.Lex.{token, comma, colon, string_token, lex, between, fresh, punctuate, tokens}
use Rattle.json.specs.Json as json
use Rattle.json.specs.Tree.{json_tokens, items_tokens, members_tokens, HasNumbers, ItemsHaveNumbers, MembersHaveNumbers}
use Rattle.json.specs.Print.{escape, quoted, token_text, ArePrintableOrBad}
use Rattle.json.proofs.Numbered.{ArePrintableOrBad-tokens}
use Rattle.json.proofs.Printed.Strings.{content-escape, lex-escape}
use Rattle.json.proofs.Printed.Numbers.{lex-number, in_word-ended}
use Rattle.serde_json.specs.Data.{Data, null, boolean, number, string, array, object, Items, no_items, item, Members, no_members, member}
use Rattle.serde_json.specs.Read.{read, of_json, max_depth}
use Rattle.serde_json.specs.Written.{number_text, outline, items_outline, members_outline, comma_if, compact_text, items_text, members_text}
use Rattle.ascii_json.specs.AsciiJson.{items_json, json_of, members_json, quoted_text}
use Rattle.ascii_json.proofs.HasTexts.{HasTexts, ItemsHaveTexts, MembersHaveTexts}
use Rattle.ascii_json.proofs.EscapeLemmas.{lex-quoted_text}

-- ---- numbers that were read are numbers

printable_rest : (ts us : List Token) → ArePrintableOrBad (ts ++ us) → ArePrintableOrBad us
printable_rest [] us h = h
printable_rest (t ∷ ts) us h = printable_rest ts us h.1

printable_first : (ts us : List Token) → ArePrintableOrBad (ts ++ us) → ArePrintableOrBad ts
printable_first [] us h = tt
printable_first (t ∷ ts) us h = (h.0, printable_first ts us h.1)

mutual
  pub numbers_in : (j : json.Json) → ArePrintableOrBad (json_tokens j) → HasNumbers j
  numbers_in json.null h = tt
  numbers_in (json.boolean b) h = tt
  numbers_in (json.number s) h = h.0
  numbers_in (json.string s) h = tt
  numbers_in (json.array js) h = numbers_in_items js h.1
  numbers_in (json.object ms) h = numbers_in_members ms h.1

  numbers_in_items : (js : json.Items) → ArePrintableOrBad (items_tokens js) → ItemsHaveNumbers js
  numbers_in_items json.no_items h = tt
  numbers_in_items (json.item j js) h = (numbers_in j (printable_first (json_tokens j) (items_tokens js) h), numbers_in_items js (printable_rest (json_tokens j) (items_tokens js) h))

  numbers_in_members : (ms : json.Members) → ArePrintableOrBad (members_tokens ms) → MembersHaveNumbers ms
  numbers_in_members json.no_members h = tt
  numbers_in_members (json.member k j ms) h =
      (numbers_in j (printable_first (json_tokens j) (members_tokens ms) h.1), numbers_in_members ms (printable_rest (json_tokens j) (members_tokens ms) h.1))

-- ---- the lexer gives the same for both texts

lex-quoted : (s r : List ℕ) → lex between (quoted s ++ r) ≡ token (Token.string s) ∷ lex between r
unfolding lex
lex-quoted s r =
    ap (λ l. lex between (34 ∷ l)) (append_assoc (escape s) (34 ∷ []) r) ∙ ap₂ (λ o l. token (string_token o) ∷ l) (content-escape s r) (lex-escape s r)

-- where r and q stand for the rests of the two texts
record Same (r q : List ℕ) : Type 0 where
  ended : ends_word r ≡ true
  ended_too : ends_word q ≡ true
  lexed : lex between r ≡ lex between q

same_string : (s r q : List ℕ) → IsUtf8 s → lex between r ≡ lex between q → lex between (quoted_text s ++ r) ≡ lex between (quoted s ++ q)
same_string s r q u e = lex-quoted_text s r u ∙ ap (λ l. token (Token.string s) ∷ l) e ∙ sym (lex-quoted s q)

lex-word : (b : Bool) (r : List ℕ) → ends_word r ≡ true → lex between (token_text (Token.boolean b) ++ r) ≡ token (Token.boolean b) ∷ lex between r
unfolding lex word
lex-word true r h = ap₂ (λ b l. token (cond b (Token.boolean true) Token.bad) ∷ l) h (in_word-ended r h)
lex-word false r h = ap₂ (λ b l. token (cond b (Token.boolean false) Token.bad) ∷ l) h (in_word-ended r h)

lex-null : (r : List ℕ) → ends_word r ≡ true → lex between (token_text Token.null ++ r) ≡ token Token.null ∷ lex between r
unfolding lex word
lex-null r h = ap₂ (λ b l. token (cond b Token.null Token.bad) ∷ l) h (in_word-ended r h)

same_comma : (later : Bool) (r q : List ℕ) → lex between r ≡ lex between q → lex between (comma_if later ++ r) ≡ lex between (comma_if later ++ q)
unfolding lex
same_comma true r q e = ap (λ l. comma ∷ l) e
same_comma false r q e = e

-- after a value stands a comma or a closing bracket
items_end : (ds : Items) (r : List ℕ) → ends_word (items_json true ds ++ r) ≡ true
items_end no_items r = refl
items_end (item d ds) r = refl

items_end_too : (ds : Items) (r : List ℕ) → ends_word (items_text true ds ++ r) ≡ true
items_end_too no_items r = refl
items_end_too (item d ds) r = refl

members_end : (ms : Members) (r : List ℕ) → ends_word (members_json true ms ++ r) ≡ true
members_end no_members r = refl
members_end (member k d ms) r = refl

members_end_too : (ms : Members) (r : List ℕ) → ends_word (members_text true ms ++ r) ≡ true
members_end_too no_members r = refl
members_end_too (member k d ms) r = refl

regroup_item : (a b c r : List ℕ) → (a ++ (b ++ c)) ++ r ≡ a ++ (b ++ (c ++ r))
regroup_item a b c r = simp append_assoc

regroup_member : (a k b c r : List ℕ) → (a ++ (k ++ 58 ∷ (b ++ c))) ++ r ≡ a ++ (k ++ 58 ∷ (b ++ (c ++ r)))
regroup_member a k b c r = simp append_assoc

same_colon : (r q : List ℕ) → lex between r ≡ lex between q → lex between (58 ∷ r) ≡ lex between (58 ∷ q)
unfolding lex
same_colon r q e = ap (λ l. colon ∷ l) e

mutual
  unfolding lex

  same_value : (d : Data) → HasTexts d → HasNumbers (outline d) → (r q : List ℕ) → Same r q → lex between (json_of d ++ r) ≡ lex between (compact_text d ++ q)
  same_value null t n r q e = lex-null r e.ended ∙ ap (λ l. token Token.null ∷ l) e.lexed ∙ sym (lex-null q e.ended_too)
  same_value (boolean b) t n r q e = lex-word b r e.ended ∙ ap (λ l. token (Token.boolean b) ∷ l) e.lexed ∙ sym (lex-word b q e.ended_too)
  same_value (number x) t n r q e =
      lex-number (number_text x) r n e.ended ∙ ap (λ l. token (Token.number (number_text x)) ∷ l) e.lexed ∙ sym (lex-number (number_text x) q n e.ended_too)
  same_value (string s) t n r q e = same_string s r q t e.lexed
  same_value (array ds) t n r q e = ap (λ l. token Token.begin_array ∷ l) (same_items false ds t n r q e.lexed)
  same_value (object ms) t n r q e = ap (λ l. token Token.begin_object ∷ l) (same_members false ms t n r q e.lexed)

  same_items : (later : Bool) (ds : Items) → ItemsHaveTexts ds → ItemsHaveNumbers (items_outline ds) → (r q : List ℕ) → lex between r ≡ lex between q
      → lex between (items_json later ds ++ r) ≡ lex between (items_text later ds ++ q)
  same_items later no_items t n r q e = ap (λ l. token Token.end_array ∷ l) e
  same_items later (item d ds) t n r q e =
      ap (lex between) (regroup_item (comma_if later) (json_of d) (items_json true ds) r)
      ∙ same_comma later _ _ (same_value d t.0 n.0 (items_json true ds ++ r) (items_text true ds ++ q)
      (record { ended = items_end ds r; ended_too = items_end_too ds q; lexed = same_items true ds t.1 n.1 r q e }))
      ∙ sym (ap (lex between) (regroup_item (comma_if later) (compact_text d) (items_text true ds) q))

  same_members : (later : Bool) (ms : Members) → MembersHaveTexts ms → MembersHaveNumbers (members_outline ms) → (r q : List ℕ) → lex between r ≡ lex between q
      → lex between (members_json later ms ++ r) ≡ lex between (members_text later ms ++ q)
  same_members later no_members t n r q e = ap (λ l. token Token.end_object ∷ l) e
  same_members later (member k d ms) t n r q e =
      ap (lex between) (regroup_member (comma_if later) (quoted_text k) (json_of d) (members_json true ms) r)
      ∙ same_comma later _ _ (same_string k _ _ t.0 (same_colon (json_of d ++ (members_json true ms ++ r)) (compact_text d ++ (members_text true ms ++ q))
      (same_value d t.1 n.0 (members_json true ms ++ r) (members_text true ms ++ q)
      (record { ended = members_end ms r; ended_too = members_end_too ms q; lexed = same_members true ms t.2 n.1 r q e }))))
      ∙ sym (ap (lex between) (regroup_member (comma_if later) (quoted k) (compact_text d) (members_text true ms) q))

same_tokens : (d : Data) → HasTexts d → HasNumbers (outline d) → tokens (json_of d) ≡ tokens (compact_text d)
same_tokens d t n =
    ap tokens (sym (append-nil (json_of d))) ∙ ap (punctuate fresh) (same_value d t n [] [] (record { ended = refl; ended_too = refl; lexed = refl })) ∙ ap tokens (append-nil (compact_text d))

-- where the compact text has the value's tokens, the ASCII text reads as the compact text does
pub read-json_of : (d : Data) → HasTexts d → tokens (compact_text d) ≡ json_tokens (outline d) → read (json_of d) ≡ read (compact_text d)
read-json_of d t e =
    let n = numbers_in (outline d) (subst ArePrintableOrBad e (ArePrintableOrBad-tokens (compact_text d))) in
    ap (λ ts. option_and_then of_json (option_and_then (λ p. json.if_last p.0 p.1) (json.value max_depth ts))) (same_tokens d t n)
