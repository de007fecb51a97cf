use Rattle.std.proofs.Common.{◌≡◌, subst}
use Rattle.site_file.specs.SiteFile.{IsSiteOf, Says, Wrong}
use Rattle.site_server.proofs.SettingsLemmas.{site_of-left}
use Rattle.site_server.proofs.site.load_site.Goals as goal

pub returns-in-Err-Wrong-clause-wrong : goal.returns-in-Err-Wrong-clause-wrong
returns-in-Err-Wrong-clause-wrong g c = λ field is.
    let same : c.in-Err-Wrong.field ≡ field = cc in
    let said : IsSiteOf c.as_slice.result.now (Wrong c.in-Err-Wrong.field) = c.in-Err-Wrong.ensures.wrong c.in-Err-Wrong.field (cc) in
    site_of-left _ 4194305 c.in-Ok.bytes.items (Wrong field) c.in-Ok.ensures.value
    (subst (λ f. IsSiteOf c.in-Ok.bytes.items (Wrong f)) same (subst (λ bs. IsSiteOf bs (Wrong c.in-Err-Wrong.field)) c.as_slice.ensures.value said))

pub returns-in-Ok-read_settings-clause-ok : goal.returns-in-Ok-read_settings-clause-ok
returns-in-Ok-read_settings-clause-ok g c =
    site_of-left _ 4194305 c.in-Ok.bytes.items (Says c.in-Ok-read_settings.site) c.in-Ok.ensures.value
    (subst (λ bs. IsSiteOf bs (Says c.in-Ok-read_settings.site)) c.as_slice.ensures.value c.in-Ok-read_settings.ensures.ok)
