use Rattle.std.proofs.lemmas.Str.Pattern.{strip_prefix_char}
use Rattle.csrf_tokens.proofs.MarkLemmas.{after_mark-stripped}
use Rattle.site_file.proofs.trusted_origins.after_mark.Goals as goal

pub returns : goal.returns
returns c = after_mark-stripped _ _ _ (strip_prefix_char _ _ _ c.strip_prefix.ensures.cases c.requires)
