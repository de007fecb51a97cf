use Rattle.std.proofs.Common.{◌∙◌}
use Rattle.permissions.proofs.SearchLemmas.{list_any-searched}
use Rattle.permissions.proofs.permission_set.is_listed.Goals as goal

pub returns : goal.returns
returns c = c.is_ok.ensures.value ∙ list_any-searched c.args.ids.now c.args.id _ c.requires c.binary_search.ensures.position
