use Rattle.csrf_tokens.proofs.HostLemmas.{ends_with-lowered}
use Rattle.csrf_tokens.proofs.hosts.ends_with.Goals as goal

pub returns-then-host-end : goal.returns-then-host-end
returns-then-host-end c = ends_with-lowered c.args.host.now c.args.end.now _ c.eq_ignore_ascii_case.ensures.test
