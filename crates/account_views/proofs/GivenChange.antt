-- A change of password leaves the session as it was, or with the hash that was given out for its user.
use Rattle.std.proofs.Common.{◌≡◌, ℕ, nat_lt, Bool, List, Option, Some, None, refl, sym, subst}
use Rattle.serde_json.specs.Data.{Members}
use Rattle.session_codec.specs.SessionMap.{SessionAuth, auth_of}
use Rattle.ledger_rows.specs.declared.operation.Op.TheVariants.{SetPassword}
use Rattle.ledger_rows.specs.declared.reply.Reply.{Reply}
use Rattle.ledger_rows.specs.declared.reply.Reply.TheVariants.{Loaded, Written}
use Rattle.ledger_rows.specs.declared.reply.UserRead.{UserRead}
use Rattle.ledger_rows.specs.declared.verdict.Verdict.{Verdict}
use Rattle.ledger_rows.specs.declared.verdict.Verdict.TheVariants.{Admitted, BadHash}
use Rattle.auth_backends.proofs.SessionBoxLemmas.{rehash_keeps_login}
use Rattle.auth_backends.specs.SessionBox.{rehashed}
use Rattle.auth_backends.specs.declared.session_box.SessionBox.{SessionBox}
use Rattle.account_views.specs.Basis.{Basis}
use Rattle.account_views.specs.Laws.{IsGiven, IsSound}
use Rattle.account_views.specs.Login.{written_hash}
use Rattle.account_views.specs.PasswordChange.{after_replacing, change_by, checked, form_fault, password_change}
use Rattle.account_views.specs.Visit.{map_in, met, opened, visit_of}
use Rattle.account_views.specs.Walk.{Event}
use Rattle.account_views.specs.declared.call.Call.{Call}
use Rattle.account_views.specs.declared.password_change.ChangeFault.{ChangeFault}
use Rattle.account_views.specs.declared.visit.Visit.{Visit}
use Rattle.account_views.proofs.EveryLemmas.{behind}
use Rattle.account_views.proofs.GivenLemmas.{Given, among_last, given_more}
use Rattle.account_views.proofs.GivenLogin.{IsGivenView}
use Rattle.account_views.proofs.WalkLemmas.{either}

-- ---- who came is the user whom the session names

-- the login of the map is one of the user of this id
pub record HasLoginFor (id : ℕ) (map : Members) : Type 0 where
  pub auth : SessionAuth
  pub named : auth_of map ≡ Some auth
  pub same : auth.user ≡ id

-- the session's login is the user's, where there is one
abbrev pub IsNamedUser : Option UserRead → SessionBox → Type 0
IsNamedUser None session = Unit {0}
IsNamedUser (Some read) session = HasLoginFor read.row.id session.map

-- a new hash leaves whose login it is
rehashed-named : (id : ℕ) (hash : List ℕ) (session : SessionBox) → HasLoginFor id session.map → HasLoginFor id (rehashed hash session).map
rehashed-named id hash session names =
    record { auth = record names.auth { hash = hash }; named = rehash_keeps_login hash session names.auth names.named; same = names.same }

met-named : (came : Bool) (verdict : Verdict) (key : Option (List ℕ)) (payload : List ℕ) (user : Option UserRead) → IsSound (Loaded verdict key payload user)
    → let visit = met verdict user (opened came key (map_in payload)) in IsNamedUser visit.user visit.session
met-named came BadHash key payload user sound = tt
met-named came (Admitted key_index) key payload (Some read) sound =
    let session = opened came key (map_in payload) in
    let names : HasLoginFor read.row.id session.map = record { auth = sound.auth; named = sound.named; same = sound.same } in
    either (λ (box : SessionBox). HasLoginFor read.row.id box.map) (nat_lt 0 key_index) (rehashed read.auth_hash session) session
    (rehashed-named read.row.id read.auth_hash session names) names
met-named came verdict key payload user sound = tt

pub visit_of-named : (came : Bool) (reply : Reply) → IsSound reply → IsNamedUser (visit_of came reply).user (visit_of came reply).session
visit_of-named came (Loaded verdict key payload user) sound = met-named came verdict key payload user sound
visit_of-named came reply sound = tt

-- ---- the change

module _ (basis : Basis) (call : Call) (session : SessionBox) (past : List Event) (given : IsGiven past (auth_of session.map)) where
  -- the new hash was given out for the session's user
  after_replacing-given : (id : ℕ) (expected fresh : List ℕ) (reply : Reply) → HasLoginFor id session.map
      → Given (behind past (SetPassword id expected fresh) reply) (after_replacing basis.draw call.secret session (written_hash reply))
  after_replacing-given id expected fresh (Written hash) names =
      subst (IsGiven (behind past (SetPassword id expected fresh) (Written hash))) (sym (rehash_keeps_login hash session names.auth names.named))
      (among_last _ past _ (names.same, refl))
  after_replacing-given id expected fresh reply names = given_more past _ reply (auth_of session.map) given

  checked-given : (read : UserRead) (password : List ℕ) (fault : Option ChangeFault) → HasLoginFor read.row.id session.map
      → IsGivenView past (checked basis.settings basis.draw call.secret read.row password session fault)
  checked-given read password None names = (tt, λ reply sound. after_replacing-given read.row.id _ _ reply names)
  checked-given read password (Some fault) names = given

  change_by-given : (user : Option UserRead) → IsNamedUser user session → IsGivenView past (change_by basis.settings basis.draw call user session)
  change_by-given None named = given
  change_by-given (Some read) named =
      either (IsGivenView past) call.post _ _ (checked-given read _ (form_fault basis.settings read.row call.fields) named) given

pub change-given : (basis : Basis) (call : Call) (visit : Visit) (past : List Event) → IsNamedUser visit.user visit.session
    → IsGiven past (auth_of visit.session.map) → IsGivenView past (password_change basis.settings basis.draw call visit)
change-given basis call visit past named given = change_by-given basis call visit.session past given visit.user named
