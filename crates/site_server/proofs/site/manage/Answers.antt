use Rattle.std.proofs.Common.{inl, inr, refl}
use Rattle.site_file.specs.SiteFile.{Says, Wrong}
use Rattle.site_server.specs.Command.{asked_by_command}
use Rattle.site_server.proofs.CommandLemmas.{runs_asked, runs_usage}
use Rattle.site_server.proofs.site.manage.Goals as goal

pub returns-in_default-clause-runs : goal.returns-in_default-clause-runs
returns-in_default-clause-runs g c =
    runs_usage c.args.words.now c.items.result.now _ _ _ _ _ c.items.ensures c.in_default.ensures
    (record { sent = c.send-status.ensures; quiet = record { input = refl; clock = refl; words = refl; kept = refl } })

pub returns-in-Ok-clause-runs : goal.returns-in-Ok-clause-runs
returns-in-Ok-clause-runs g c =
    runs_asked c.args.words.now c.items.result.now (asked_by_command c.in-Some.command) _ _ _ _ _ c.items.ensures c.in-Some.ensures
    (inr (Says c.in-Ok.site, c.in-Ok.ensures.ok, c.run.ensures.runs))

pub returns-in-Err-Wrong-clause-runs : goal.returns-in-Err-Wrong-clause-runs
returns-in-Err-Wrong-clause-runs g c =
    runs_asked c.args.words.now c.items.result.now (asked_by_command c.in-Some.command) _ _ _ _ _ c.items.ensures c.in-Some.ensures
    (inr (
      Wrong c.in-Err-Wrong.field,
      c.in-Err-Wrong.ensures.wrong c.in-Err-Wrong.field (cc),
      elim c.refuse_settings.ensures [
        | inl sent ↦ inl (record { sent = rw (← c.in-Err-Wrong.field-is) sent; quiet = record { input = refl; clock = refl; words = refl; kept = refl } })
        | inr unsent ↦ inr (unsent.0, record { quiet = record { input = refl; clock = refl; words = refl; kept = refl }; output = unsent.1 })
      ],
    ))
