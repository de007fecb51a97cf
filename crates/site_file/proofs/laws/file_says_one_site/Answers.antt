use Rattle.site_file.proofs.SiteFileLemmas as lemmas
use Rattle.site_file.proofs.laws.file_says_one_site.Goals as goal

pub returns : goal.returns
returns c = lemmas.file_says_one_site
