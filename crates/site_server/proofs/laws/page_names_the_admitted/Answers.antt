use Rattle.site_server.proofs.PageLemmas.{page_names}
use Rattle.site_server.proofs.laws.page_names_the_admitted.Goals as goal

pub returns : goal.returns
returns c = page_names c.load_admits_exactly.ensures
