use Rattle.std.proofs.Common.{◌≡◌, IsUtf8, Some, sym, ap, ◌∙◌, string_bytes, subst, arith}
use Rattle.std.proofs.lemmas.Str.{IsUtf8-string_bytes}
use Rattle.std.specs.List.{All}
use Rattle.json.specs.Lex.{tokens}
use Rattle.json.specs.Tree.{json_tokens}
use Rattle.serde_json.specs.Read.{read}
use Rattle.serde_json.specs.View.{view}
use Rattle.serde_json.specs.Written.{compact_text, outline}
use Rattle.serde_json.proofs.Texts.{tokens_from_order}
use Rattle.ascii_json.specs.AsciiJson.{IsPrintable, json_of}
use Rattle.ascii_json.specs.Escaping.{escaped_text}
use Rattle.ascii_json.proofs.HasTexts.{view_has_texts}
use Rattle.ascii_json.proofs.CompactLemmas.{escaped_text-compact_text}
use Rattle.ascii_json.proofs.Printable.{All-from_printable}
use Rattle.ascii_json.proofs.ReadLemmas.{representable_from_read}
use Rattle.ascii_json.proofs.RoundTrip.{read-json_of}
use Rattle.ascii_json.proofs.PrintableLemmas.{text_printable}
use Rattle.ascii_json.proofs.writing.json_ascii.Goals as goal

pub returns : goal.returns
returns c =
    let v = c.args.value.now in
    let floatless = c.requires.profile.0 in
    let texts = view_has_texts v in
    let compact = c.in_ok-compact.ensures.text floatless in
    let back : read (string_bytes c.in_ok-compact.compact) ≡ Some (view v) = c.in_ok-compact.ensures.reads_back (omega arith) in
    let printed : tokens (compact_text (view v)) ≡ json_tokens (outline (view v)) = ap tokens (sym compact) ∙ tokens_from_order _ (view v) c.in_ok-compact.ensures.order floatless in
    let written : c.from_string.result ≡ json_of (view v) =
    c.from_string.ensures ∙ c.in_ok-ascii.ensures ∙ ap escaped_text (c.as_str.ensures.value ∙ compact) ∙ escaped_text-compact_text (view v) texts in
    record {
      ok = written;
      printable = subst (All IsPrintable) (sym written) (All-from_printable _ (text_printable (view v) texts));
      reads = record {
        utf8 = subst IsUtf8 (sym c.from_string.ensures) (IsUtf8-string_bytes c.in_ok-ascii.ascii);
        says = ap read written ∙ read-json_of (view v) texts printed ∙ ap read (sym compact) ∙ back;
        profile = c.requires.profile;
      };
      representable = representable_from_read _ (view v) back texts floatless;
    }
