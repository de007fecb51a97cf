use Rattle.crypto_text.proofs.CutLemmas.{first_cut, first_cut-back, first_cut-front, first_cut-whole}
use Rattle.crypto_text.proofs.cut.cut_at_first.Goals as goal

pub returns : goal.returns
returns c = record {
  cut = first_cut _ _ _ c.requires c.split_once.ensures.cases;
  front = first_cut-front _ _ _ c.requires c.split_once.ensures.cases;
  back = first_cut-back _ _ _ c.requires c.split_once.ensures.cases;
  whole = first_cut-whole _ _ _ c.requires c.split_once.ensures.cases;
}
