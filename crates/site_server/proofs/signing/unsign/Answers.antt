use Rattle.std.proofs.Common.{inl, subst}
use Rattle.std.specs.Prelude.{string_bytes}
use Rattle.site_server.specs.Command.{IsUnsigned}
use Rattle.site_server.proofs.signing.unsign.Goals as goal

pub returns-in-Ok : goal.returns-in-Ok
returns-in-Ok g c = record {
  unsigns = (
    c.now.result,
    c.now.ensures,
    inl (
      string_bytes c.in-Ok.reply.line,
      c.in-Ok.reply.end,
      subst (λ now. IsUnsigned c.args.keys.now c.args.salt.now c.args.max_age c.args.text.now now (string_bytes c.in-Ok.reply.line) c.in-Ok.reply.end) c.moment_of-now.ensures.value c.in-Ok.ensures,
      c.send_reply.ensures,
    ),
  );
}
