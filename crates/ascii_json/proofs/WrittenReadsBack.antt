-- What is written for representable data is read back as that data.
use Rattle.std.proofs.Common.{◌≡◌, ℕ, ◌≤◌, pos, negsuc, List, [], Some, option_map, option_and_then, Greater, nat_cmp, refl, sym, ap, ◌∙◌, arith, append-nil}
use Rattle.std.specs.Prelude.{⊤}
use Rattle.std.specs.Cmp.Lexicographic.{slice_cmp}
use Rattle.std.specs.Ordering.{ordering_reverse}
use Rattle.std.proofs.lemmas.Cmp.{nat_list_cmp_total}
use Rattle.json.specs.Lex.{tokens}
use Rattle.json.specs.Print.{IsNumber}
use Rattle.json.specs.Json as json
use Rattle.json.specs.Tree as tree
use Rattle.json.specs.Tree.{json_tokens, HasNumbers, ItemsHaveNumbers, MembersHaveNumbers}
use Rattle.json.proofs.Printed.Tokens.{tokens-print}
use Rattle.json.proofs.Printed.Trees.{value-json_tokens, ArePrintable-json_tokens}
use Rattle.json.proofs.Printed.Decimals.{IsNumber-decimal, IsNumber-signed_decimal}
use Rattle.serde_json.specs.Data.{Num, unsigned, negative, float, Data, null, boolean, number, string, array, object, Items, no_items, item, Members, no_members, member, put, depth, items_depth, members_depth}
use Rattle.serde_json.specs.Read.{read, number_of, of_json, of_items, of_members, max_depth}
use Rattle.serde_json.specs.Written.{number_text, outline, items_outline, members_outline, compact_text}
use Rattle.serde_json.proofs.Numbers.{number_of-decimal, number_of-negative}
use Rattle.serde_json.proofs.Texts.{print-outline}
use Rattle.ascii_json.specs.AsciiJson.{IsPrintable, json_of}
use Rattle.ascii_json.proofs.Printable.{All-from_printable}
use Rattle.std.specs.List.{All}
use Rattle.ascii_json.specs.Representable.{IsWholeNumber, AllKeysAfter, IsRepresentable, ItemsAreRepresentable, MembersAreRepresentable}
use Rattle.ascii_json.proofs.HasTexts.{HasTexts, ItemsHaveTexts, MembersHaveTexts}
use Rattle.ascii_json.specs.Profile.{IsProfile, Reads}
use Rattle.ascii_json.proofs.RoundTrip.{read-json_of}
use Rattle.ascii_json.proofs.PrintableLemmas.{text_printable, printable_utf8}

mutual
  representable_texts : (d : Data) → IsRepresentable d → HasTexts d
  representable_texts null h = tt
  representable_texts (boolean b) h = tt
  representable_texts (number n) h = tt
  representable_texts (string s) h = h
  representable_texts (array ds) h = representable_items_texts ds h
  representable_texts (object ms) h = representable_members_texts ms h

  representable_items_texts : (ds : Items) → ItemsAreRepresentable ds → ItemsHaveTexts ds
  representable_items_texts no_items h = tt
  representable_items_texts (item d ds) h = (representable_texts d h.0, representable_items_texts ds h.1)

  representable_members_texts : (ms : Members) → MembersAreRepresentable ms → MembersHaveTexts ms
  representable_members_texts no_members h = tt
  representable_members_texts (member k d ms) h = (h.0, representable_texts d h.1, representable_members_texts ms h.3)

number_representable : (n : Num) → IsWholeNumber n → IsNumber (number_text n) × (number_of (number_text n) ≡ Some n)
number_representable (unsigned n) h = (IsNumber-decimal n h, number_of-decimal n h)
number_representable (negative (pos n)) h = absurd h
number_representable (negative (negsuc n)) h = (IsNumber-signed_decimal (negsuc n) h, number_of-negative n h)
number_representable (float x) h = absurd h

mutual
  representable_numbers : (d : Data) → IsRepresentable d → HasNumbers (outline d)
  representable_numbers null h = tt
  representable_numbers (boolean b) h = tt
  representable_numbers (number n) h = (number_representable n h).0
  representable_numbers (string s) h = tt
  representable_numbers (array ds) h = representable_items_numbers ds h
  representable_numbers (object ms) h = representable_members_numbers ms h

  representable_items_numbers : (ds : Items) → ItemsAreRepresentable ds → ItemsHaveNumbers (items_outline ds)
  representable_items_numbers no_items h = tt
  representable_items_numbers (item d ds) h = (representable_numbers d h.0, representable_items_numbers ds h.1)

  representable_members_numbers : (ms : Members) → MembersAreRepresentable ms → MembersHaveNumbers (members_outline ms)
  representable_members_numbers no_members h = tt
  representable_members_numbers (member k d ms) h = (representable_numbers d h.1, representable_members_numbers ms h.3)

-- ---- members that go in in order stay in order

abbrev joined : Members → Members → Members
joined no_members ms = ms
joined (member l e fs) ms = member l e (joined fs ms)

joined_more : (fs : Members) (k : List ℕ) (d : Data) (ms : Members) → joined (joined fs (member k d no_members)) ms ≡ joined fs (member k d ms)
joined_more no_members k d ms = refl
joined_more (member l e fs) k d ms = ap (member l e) (joined_more fs k d ms)

joined_none : (fs : Members) → fs ≡ joined fs no_members
joined_none no_members = refl
joined_none (member l e fs) = ap (member l e) (joined_none fs)

-- each key of the first comes before each of the second
abbrev AllBefore : Members → Members → Type 0
AllBefore no_members ms = ⊤
AllBefore (member l e fs) ms = AllKeysAfter l ms × AllBefore fs ms

put_last : (fs : Members) (k : List ℕ) (d : Data) (ms : Members) → AllBefore fs (member k d ms) → put k d fs ≡ joined fs (member k d no_members)
put_last no_members k d ms h = refl
put_last (member l e fs) k d ms h =
    let above : slice_cmp nat_cmp k l ≡ Greater = nat_list_cmp_total.antisymm k l ∙ ap ordering_reverse h.0.0 in
    rw above (ap (member l e) (put_last fs k d ms h.1))

before_more : (fs : Members) (k : List ℕ) (d : Data) (ms : Members) → AllBefore fs (member k d ms) → AllKeysAfter k ms → AllBefore (joined fs (member k d no_members)) ms
before_more no_members k d ms h a = (a, tt)
before_more (member l e fs) k d ms h a = (h.0.1, before_more fs k d ms h.1 a)

mutual
  representable_reads : (d : Data) → IsRepresentable d → of_json (outline d) ≡ Some d
  representable_reads null h = refl
  representable_reads (boolean b) h = refl
  representable_reads (number n) h = ap (option_map number) (number_representable n h).1
  representable_reads (string s) h = refl
  representable_reads (array ds) h = ap (option_map array) (representable_items_read ds h)
  representable_reads (object ms) h = ap (option_map object) (representable_members_read ms no_members h tt)

  representable_items_read : (ds : Items) → ItemsAreRepresentable ds → of_items (items_outline ds) ≡ Some ds
  representable_items_read no_items h = refl
  representable_items_read (item d ds) h =
      ap (option_and_then (λ x. option_map (item x) (of_items (items_outline ds)))) (representable_reads d h.0) ∙ ap (option_map (item d)) (representable_items_read ds h.1)

  representable_members_read : (ms found : Members) → MembersAreRepresentable ms → AllBefore found ms → of_members (members_outline ms) found ≡ Some (joined found ms)
  representable_members_read no_members found h b = ap Some (joined_none found)
  representable_members_read (member k d ms) found h b =
      ap (option_and_then (λ x. of_members (members_outline ms) (put k x found))) (representable_reads d h.1)
      ∙ ap (of_members (members_outline ms)) (put_last found k d ms b)
      ∙ representable_members_read ms (joined found (member k d no_members)) h.3 (before_more found k d ms b h.2)
      ∙ ap Some (joined_more found k d ms)

mutual
  outline_depth : (d : Data) → tree.depth (outline d) ≡ depth d
  outline_depth null = refl
  outline_depth (boolean b) = refl
  outline_depth (number n) = refl
  outline_depth (string s) = refl
  outline_depth (array ds) = omega (arith, outline_items_depth ds)
  outline_depth (object ms) = omega (arith, outline_members_depth ms)

  outline_items_depth : (ds : Items) → tree.items_depth (items_outline ds) ≡ items_depth ds
  outline_items_depth no_items = refl
  outline_items_depth (item d ds) = rw (outline_depth d, outline_items_depth ds) refl

  outline_members_depth : (ms : Members) → tree.members_depth (members_outline ms) ≡ members_depth ms
  outline_members_depth no_members = refl
  outline_members_depth (member k d ms) = rw (outline_depth d, outline_members_depth ms) refl

compact_tokens : (d : Data) → IsRepresentable d → tokens (compact_text d) ≡ json_tokens (outline d)
compact_tokens d h = ap tokens (sym (print-outline d)) ∙ tokens-print (json_tokens (outline d)) (ArePrintable-json_tokens (outline d) (representable_numbers d h))

compact_reads : (d : Data) → IsRepresentable d → depth d ≤ max_depth → read (compact_text d) ≡ Some d
compact_reads d h shallow =
    ap (λ ts. option_and_then of_json (option_and_then (λ p. json.if_last p.0 p.1) (json.value max_depth ts))) (compact_tokens d h ∙ sym (append-nil (json_tokens (outline d))))
    ∙ ap (λ o. option_and_then of_json (option_and_then (λ p. json.if_last p.0 p.1) o)) (value-json_tokens (outline d) max_depth [] (omega (arith, outline_depth d)))
    ∙ representable_reads d h

pub json_reads : (d : Data) → IsRepresentable d → depth d ≤ max_depth → read (json_of d) ≡ Some d
json_reads d h shallow = read-json_of d (representable_texts d h) (compact_tokens d h) ∙ compact_reads d h shallow

pub reads_back : (d : Data) → IsRepresentable d → IsProfile d → Reads (json_of d) d
reads_back d h p = record { utf8 = printable_utf8 _ (text_printable d (representable_texts d h)); says = json_reads d h (omega (arith, p.1)); profile = p }

pub json_printable : (d : Data) → IsRepresentable d → All IsPrintable (json_of d)
json_printable d h = All-from_printable _ (text_printable d (representable_texts d h))
