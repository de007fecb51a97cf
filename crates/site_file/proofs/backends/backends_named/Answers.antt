use Rattle.std.proofs.Common.{◌∙◌, arith, sym}
use Rattle.site_file.proofs.BackendLemmas.{paths_of-unknown}
use Rattle.site_file.proofs.backends.backends_named.Goals as goal

pub returns-in-None-clause-form : goal.returns-in-None-clause-form
returns-in-None-clause-form c = λ _.
    paths_of-unknown c.args.paths.now c.loop-path.path-index c.path-item.result (omega arith)
    (λ backend is. c.backend_named.ensures.none c.in-None.is backend (is ∙ sym (c.as_str.ensures ∙ c.path-item.is)))
