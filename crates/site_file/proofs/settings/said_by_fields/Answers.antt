use Rattle.std.proofs.Common.{inl, inr, ap, refl, Err}
use Rattle.std.proofs.lemmas.Result.{err_from_is_err_and}
use Rattle.site_file.specs.SiteFile.{IsSaidByFields, Wrong}
use Rattle.site_file.proofs.SiteFileLemmas.{same_refusal}
use Rattle.site_file.proofs.settings.said_by_fields.Goals as goal

pub returns-in_err-trusted-clause-wrong : goal.returns-in_err-trusted-clause-wrong
unfolding IsSaidByFields
returns-in_err-trusted-clause-wrong c = λ field is.
    let p = err_from_is_err_and c.from_residual-in_err-trusted.result c.from_residual-in_err-trusted.ensures.1 in
    let said = c.in_err-trusted.ensures.wrong field (ap Err (same_refusal _ _ _ _ p.1 p.2 is)) in
    inl (c.in_ok-keys.keys, c.in_ok-keys.ensures.ok, inl (c.in_ok-allowed.allowed, c.in_ok-allowed.ensures.ok, inr (said.1, ap Wrong said.0)))

pub returns-in_err-backends-clause-wrong : goal.returns-in_err-backends-clause-wrong
unfolding IsSaidByFields
returns-in_err-backends-clause-wrong c = λ field is.
    let p = err_from_is_err_and c.from_residual-in_err-backends.result c.from_residual-in_err-backends.ensures.1 in
    let said = c.in_err-backends.ensures.wrong field (ap Err (same_refusal _ _ _ _ p.1 p.2 is)) in
    inl (c.in_ok-keys.keys, c.in_ok-keys.ensures.ok, inl (c.in_ok-allowed.allowed, c.in_ok-allowed.ensures.ok, inl (c.in_ok-trusted.trusted, c.in_ok-trusted.ensures.ok, inr (said.1, ap Wrong said.0))))

pub returns-in_err-installed-clause-wrong : goal.returns-in_err-installed-clause-wrong
unfolding IsSaidByFields
returns-in_err-installed-clause-wrong c = λ field is.
    let p = err_from_is_err_and c.from_residual-in_err-installed.result c.from_residual-in_err-installed.ensures.1 in
    let said = c.in_err-installed.ensures.wrong field (ap Err (same_refusal _ _ _ _ p.1 p.2 is)) in
    inl (c.in_ok-keys.keys, c.in_ok-keys.ensures.ok, inl (c.in_ok-allowed.allowed, c.in_ok-allowed.ensures.ok, inl (c.in_ok-trusted.trusted, c.in_ok-trusted.ensures.ok, inl (c.in_ok-backends.backends.items, c.in_ok-backends.ensures.ok, inr (said.1, ap Wrong said.0)))))

pub returns-in_err-iterations-clause-wrong : goal.returns-in_err-iterations-clause-wrong
unfolding IsSaidByFields
returns-in_err-iterations-clause-wrong c = λ field is.
    let p = err_from_is_err_and c.from_residual-in_err-iterations.result c.from_residual-in_err-iterations.ensures.1 in
    let said = c.in_err-iterations.ensures.wrong field (ap Err (same_refusal _ _ _ _ p.1 p.2 is)) in
    inl (c.in_ok-keys.keys, c.in_ok-keys.ensures.ok, inl (c.in_ok-allowed.allowed, c.in_ok-allowed.ensures.ok, inl (c.in_ok-trusted.trusted, c.in_ok-trusted.ensures.ok, inl (c.in_ok-backends.backends.items, c.in_ok-backends.ensures.ok, inl (c.in_ok-installed.installed.items, c.in_ok-installed.ensures.ok, inr (said.1, ap Wrong said.0))))))

pub returns-in_err-proxy_secure-clause-wrong : goal.returns-in_err-proxy_secure-clause-wrong
unfolding IsSaidByFields
returns-in_err-proxy_secure-clause-wrong c = λ field is.
    let p = err_from_is_err_and c.from_residual-in_err-proxy_secure.result c.from_residual-in_err-proxy_secure.ensures.1 in
    let said = c.in_err-proxy_secure.ensures.wrong field (ap Err (same_refusal _ _ _ _ p.1 p.2 is)) in
    inl (c.in_ok-keys.keys, c.in_ok-keys.ensures.ok, inl (c.in_ok-allowed.allowed, c.in_ok-allowed.ensures.ok, inl (c.in_ok-trusted.trusted, c.in_ok-trusted.ensures.ok, inl (c.in_ok-backends.backends.items, c.in_ok-backends.ensures.ok, inl (c.in_ok-installed.installed.items, c.in_ok-installed.ensures.ok, inl (c.in_ok-iterations.iterations, c.in_ok-iterations.ensures.ok, inr (said.1, ap Wrong said.0)))))))

pub returns-in_err-cookie_secure-clause-wrong : goal.returns-in_err-cookie_secure-clause-wrong
unfolding IsSaidByFields
returns-in_err-cookie_secure-clause-wrong c = λ field is.
    let p = err_from_is_err_and c.from_residual-in_err-cookie_secure.result c.from_residual-in_err-cookie_secure.ensures.1 in
    let said = c.in_err-cookie_secure.ensures.wrong field (ap Err (same_refusal _ _ _ _ p.1 p.2 is)) in
    inl (c.in_ok-keys.keys, c.in_ok-keys.ensures.ok, inl (c.in_ok-allowed.allowed, c.in_ok-allowed.ensures.ok, inl (c.in_ok-trusted.trusted, c.in_ok-trusted.ensures.ok, inl (c.in_ok-backends.backends.items, c.in_ok-backends.ensures.ok, inl (c.in_ok-installed.installed.items, c.in_ok-installed.ensures.ok, inl (c.in_ok-iterations.iterations, c.in_ok-iterations.ensures.ok, inl (c.in_ok-proxy_secure.proxy_secure, c.in_ok-proxy_secure.ensures.ok, inr (said.1, ap Wrong said.0))))))))

pub returns-in_err-common-clause-wrong : goal.returns-in_err-common-clause-wrong
unfolding IsSaidByFields
returns-in_err-common-clause-wrong c = λ field is.
    let p = err_from_is_err_and c.from_residual-in_err-common.result c.from_residual-in_err-common.ensures.1 in
    let said = c.in_err-common.ensures.wrong field (ap Err (same_refusal _ _ _ _ p.1 p.2 is)) in
    inl (c.in_ok-keys.keys, c.in_ok-keys.ensures.ok, inl (c.in_ok-allowed.allowed, c.in_ok-allowed.ensures.ok, inl (c.in_ok-trusted.trusted, c.in_ok-trusted.ensures.ok, inl (c.in_ok-backends.backends.items, c.in_ok-backends.ensures.ok, inl (c.in_ok-installed.installed.items, c.in_ok-installed.ensures.ok, inl (c.in_ok-iterations.iterations, c.in_ok-iterations.ensures.ok, inl (c.in_ok-proxy_secure.proxy_secure, c.in_ok-proxy_secure.ensures.ok, inl (c.in_ok-cookie_secure.cookie_secure, c.in_ok-cookie_secure.ensures.ok, inr (said.1, ap Wrong said.0)))))))))

pub returns-in_err-opening-clause-wrong : goal.returns-in_err-opening-clause-wrong
unfolding IsSaidByFields
returns-in_err-opening-clause-wrong c = λ field is.
    let p = err_from_is_err_and c.from_residual-in_err-opening.result c.from_residual-in_err-opening.ensures.1 in
    let said = c.in_err-opening.ensures.wrong field (ap Err (same_refusal _ _ _ _ p.1 p.2 is)) in
    inl (c.in_ok-keys.keys, c.in_ok-keys.ensures.ok, inl (c.in_ok-allowed.allowed, c.in_ok-allowed.ensures.ok, inl (c.in_ok-trusted.trusted, c.in_ok-trusted.ensures.ok, inl (c.in_ok-backends.backends.items, c.in_ok-backends.ensures.ok, inl (c.in_ok-installed.installed.items, c.in_ok-installed.ensures.ok, inl (c.in_ok-iterations.iterations, c.in_ok-iterations.ensures.ok, inl (c.in_ok-proxy_secure.proxy_secure, c.in_ok-proxy_secure.ensures.ok, inl (c.in_ok-cookie_secure.cookie_secure, c.in_ok-cookie_secure.ensures.ok, inl (c.in_ok-common.common, c.in_ok-common.ensures.ok, inr (rw (← c.as_slice.ensures.value) said.1, ap Wrong said.0))))))))))

pub returns-clause-ok : goal.returns-clause-ok
unfolding IsSaidByFields
returns-clause-ok c =
    inl (c.in_ok-keys.keys, c.in_ok-keys.ensures.ok, inl (c.in_ok-allowed.allowed, c.in_ok-allowed.ensures.ok, inl (c.in_ok-trusted.trusted, c.in_ok-trusted.ensures.ok, inl (c.in_ok-backends.backends.items, c.in_ok-backends.ensures.ok, inl (c.in_ok-installed.installed.items, c.in_ok-installed.ensures.ok, inl (c.in_ok-iterations.iterations, c.in_ok-iterations.ensures.ok, inl (c.in_ok-proxy_secure.proxy_secure, c.in_ok-proxy_secure.ensures.ok, inl (c.in_ok-cookie_secure.cookie_secure, c.in_ok-cookie_secure.ensures.ok, inl (c.in_ok-common.common, c.in_ok-common.ensures.ok, inl (c.in_ok-opening.opening, rw (← c.as_slice.ensures.value) c.in_ok-opening.ensures.ok, rw c.cfg_of-cfg.ensures.value refl))))))))))
