-- What follows from the definitions.
use Rattle.std.specs.Prelude.{◌≡◌, ◌↔◌, ◌+◌, ◌++◌, codes, ℕ, zero, suc, List, [], ◌∷◌, Option, Some, None}
use Rattle.ledger_rows.specs.Admission.{IsAdmitted}
use Rattle.ledger_rows.specs.History.{entry_at, state_at}
use Rattle.ledger_rows.specs.declared.operation.Op.TheVariants.{Load}
use Rattle.ledger_rows.specs.declared.reply.Reply.{Reply}
use Rattle.ledger_rows.specs.declared.rows.Cfg.{Cfg}
use Rattle.ledger_rows.specs.declared.rows.Opening.{Opening}
use Rattle.ledger_rows.specs.declared.rows.UserRow.{UserRow}
use Rattle.http_edge.specs.declared.response.Response.{Response}
use Rattle.keepers.specs.Keeper.{Contents, Kept, Holding}
use Rattle.session_engines.specs.Ledger.{IsSoundLedger, LedgerView}
use Rattle.session_engines.specs.Start.{HasOpened}
use Rattle.middleware_chain.specs.declared.settings.Settings.{Settings}
use Rattle.middleware_chain.specs.Page.{line}
use Rattle.middleware_chain.specs.Route.{route_of}
use Rattle.middleware_chain.specs.declared.route.Route.TheVariants.{Whoami}
use Rattle.account_views.specs.Walk.{Event}
use Rattle.site_server.specs.ManageSite.{HasKnownBoots}
use Rattle.site_server.specs.OneWorker.{Devices, Serves}
use Rattle.site_server.specs.Outcome.{Done, Server, tag_of}
use Rattle.site_server.specs.OwnLedger.{HaveTurned, IsUnused}
use Rattle.site_server.specs.Transcript.{Exchange, IsTranscript}
use Rattle.site_server.specs.declared.connection.End.TheVariants.{Closed}
use Rattle.site_server.specs.declared.connection.Report.{Report}

-- what is written on a connection that is closed follows from the site's settings, the bytes that were read, and the
-- exchanges: the store, the clock and the pieces in which the bytes came don't matter beside
abbrev pub WrittenIsOne : Type 0
WrittenIsOne = (settings : Settings) (most : ℕ) (bytes : List ℕ) (exchanges : List Exchange) (one other : List ℕ)
    → IsTranscript settings most bytes exchanges one Closed → IsTranscript settings most bytes exchanges other Closed → one ≡ other

-- the worker of the first request of a start has entered nothing
abbrev pub StartIsUnused : Type 0
StartIsUnused = (opening : Opening) (site : Cfg) (found : Kept) (ledger : LedgerView)
    → HasOpened opening site found ledger → HasKnownBoots found → IsUnused 1 1 ledger

-- the exchange at an index, counted from 0
abbrev pub exchange_at : List Exchange → ℕ → Option Exchange
exchange_at [] index = None
exchange_at (e ∷ exchanges) zero = Some e
exchange_at (e ∷ exchanges) (suc index) = exchange_at exchanges index

-- a cookie admits a user of this name in the state that a load found at an index of the audit list
pub record Admits (cfg : Cfg) (contents : Contents) (index : ℕ) (cookie : Option (List ℕ)) (now : ℕ) (name : List ℕ) : Type 0 where
  pub user : UserRow
  pub key : ℕ
  pub admitted : IsAdmitted cfg (state_at cfg.engine contents.opening contents.entries index) cookie now user key
  pub name_is : user.name ≡ name

-- the page says a name exactly where the load, whose entry is at an index of the audit list, admits a user of that name
pub record NamesTheAdmitted (cfg : Cfg) (server : Server) (number : ℕ) (contents : Contents) (cookie : Option (List ℕ)) (now : ℕ) (response : Response) : Type 0 where
  pub index : ℕ
  pub entered : entry_at contents.entries index ≡ Some (record { tag = tag_of server number 0; op = Load cookie now })
  pub page : (name : List ℕ) → (response.body ≡ codes "user=" ++ line name) ↔ Admits cfg contents index cookie now name

-- so it is of each request of a connection that asked who is there and got its page, over a ledger that was sound
abbrev pub PageNamesTheAdmitted : Type 0
PageNamesTheAdmitted = (settings : Settings) (server : Server) (first : ℕ) (before after : Devices) (found left : LedgerView) (report : Report) (contents : Contents)
    → (serves : Serves settings server first before after (λ turns. HaveTurned turns found left) report)
    → IsSoundLedger found → left.kept.report ≡ Holding contents
    → (index : ℕ) (e : Exchange) (response : Response) (cookie : Option (List ℕ)) (now : ℕ) (reply : Reply) (others : List Event)
    → exchange_at serves.exchanges index ≡ Some e → route_of e.request.path ≡ Some Whoami
    → e.outcome.ending ≡ Done response → response.status ≡ 200
    → e.outcome.events ≡ record { op = Load cookie now; reply = reply } ∷ others
    → NamesTheAdmitted found.cfg server (first + index) contents cookie now response
