-- What the session's write asks for may be done: keys, lifetimes and payloads are in form, and statuses are known.
use Rattle.std.proofs.Common.{◌≡◌, ℕ, ◌+◌, ◌-◌, ◌*◌, ◌^◌, ◌<◌, ◌≤◌, true, option_and_then, List, All, Option, Some, None, length, slice_range, drop, refl, ◌∙◌, arith}
use Rattle.std.proofs.lemmas.List.{length-map, length-take-le, length-drop}
use Rattle.std.proofs.lemmas.List.Elements.{All-contains, All-drop, All-take, All-weaker}
use Rattle.std.proofs.lemmas.List.Sums.{AllPass-from_list_all}
use Rattle.std.specs.List.{AllPass, Contains}
use Rattle.serde_json.specs.Data.{Members}
use Rattle.serde_json.specs.Find.{as_number, as_u64, get_member}
use Rattle.crypto_text.proofs.AlphabetLemmas.{AreLetters-random_text, length-session36}
use Rattle.crypto_text.specs.Alphabet.{letter_for, random_text, session36}
use Rattle.crypto_text.specs.Moment.{IsMoment}
use Rattle.http_edge.specs.ResponseText.{IsStatus, reason_phrase}
use Rattle.http_edge.specs.declared.response.Response.{Response}
use Rattle.pass_hashers.specs.PasswordText.{IsUsable}
use Rattle.session_codec.specs.SessionMap.{IsSession, expiry_from, expiry_name, expiry_of}
use Rattle.session_codec.specs.SessionText.{payload_of}
use Rattle.ledger_rows.specs.Form.{IsSessionKey, is_key_byte}
use Rattle.ledger_rows.specs.Step.{IsLifetime, IsWriting}
use Rattle.ledger_rows.specs.declared.operation.Op.{Op}
use Rattle.ledger_rows.specs.declared.operation.Op.TheVariants.{Delete}
use Rattle.account_views.specs.Basis.{Basis}
use Rattle.account_views.specs.RandomTexts.{session_key}
use Rattle.account_views.specs.SessionWrite.{placing_op, save_op, written}
use Rattle.account_views.specs.Walk.{Event, IsAllowed, IsReplyTo}
use Rattle.account_views.specs.declared.page.Viewed.{Viewed}
use Rattle.account_views.proofs.WriteLemmas.{EverySent, IsFineWrite, every-written}

-- ---- what is to be shown

-- a request's moment is one, it has as many random words as it may use, and new passwords have a hasher
pub record IsProperBasis (basis : Basis) : Type 0 where
  pub moment : IsMoment basis.facts.moment
  pub words : All (λ word. word < 2 ^ 32) basis.draw
  pub enough : 1024 ≤ length basis.draw
  pub usable : IsUsable basis.settings.cfg.preferred

-- the reply may come to the step
abbrev pub MayCome : Event → Type 0
MayCome event = IsReplyTo event.op event.reply

abbrev pub Allowed : Basis → List Event → Op → Type 0
Allowed basis past op = IsProperBasis basis → IsAllowed op

-- a view leaves a session and a page with a status of its own
pub record IsProperEnd (v : Viewed) : Type 0 where
  pub session : IsSession v.session.map
  pub status : IsStatus v.page.status

abbrev pub EndsProperly : List Event → Viewed → Type 0
EndsProperly past v = IsProperEnd v

abbrev pub HasOwnStatus : Response → Type 0
HasOwnStatus response = IsStatus response.status

-- ---- statuses

pub status_200 : IsStatus 200
unfolding reason_phrase
status_200 = omega arith

pub status_400 : IsStatus 400
unfolding reason_phrase
status_400 = omega arith

pub status_404 : IsStatus 404
unfolding reason_phrase
status_404 = omega arith

pub status_503 : IsStatus 503
unfolding reason_phrase
status_503 = omega arith

-- ---- keys, lifetimes and payloads

key_letters : AllPass is_key_byte session36
unfolding session36
key_letters = AllPass-from_list_all is_key_byte session36 refl

session_key-form : (draw : List ℕ) (number : ℕ) → All (λ word. word < 2 ^ 32) draw → 1024 ≤ length draw → number < 16 → IsSessionKey (session_key draw number)
unfolding session_key
session_key-form draw number words enough below =
    let first = 32 * number in
    let count : first + 32 - first ≡ 32 = omega arith in
    let own = slice_range draw first (first + 32) in
    let left : length (drop first draw) ≡ length draw - first = length-drop first draw in
    let size : length own ≡ first + 32 - first = length-take-le (first + 32 - first) (drop first draw) (omega arith) in
    let fit : All (λ word. word < 2 ^ 32) own = All-take (λ (word : ℕ). word < 2 ^ 32) (first + 32 - first) (drop first draw) (All-drop (λ (word : ℕ). word < 2 ^ 32) first draw words) in
    let letters : All (Contains session36) (random_text session36 own) = AreLetters-random_text session36 own (omega (arith, length-session36)) fit in record {
      size = length-map own (letter_for session36) ∙ size ∙ count;
      bytes = All-weaker (Contains session36) (λ c. is_key_byte c ≡ true) (λ c among. All-contains (λ (c : ℕ). is_key_byte c ≡ true) session36 c key_letters among) _ letters;
    }

lifetime-from : (seconds : Option ℕ) → IsLifetime (expiry_from seconds).seconds
lifetime-from None = record { least = omega arith; most = omega arith }
lifetime-from (Some n) = record { least = grind arith; most = grind arith }

lifetime-of : (map : Members) → IsLifetime (expiry_of map).seconds
lifetime-of map = lifetime-from (option_and_then as_u64 (option_and_then as_number (get_member expiry_name map)))

-- the payload of a session's map may be written now
writing : (map : Members) (now : ℕ) → IsSession map → IsMoment now → IsWriting (payload_of map) (expiry_of map).seconds now
writing map now session moment = record { map = record { map = map; held = session; whole = refl }; lifetime = lifetime-of map; moment = moment }

-- ---- the session's write

module _ (basis : Basis) (v : Viewed) (ends : IsProperEnd v) where
  placing-allowed : (old : Option (List ℕ)) (key : List ℕ) → IsSessionKey key → IsProperBasis basis → IsAllowed (placing_op basis.facts v old key)
  placing-allowed None key form going =
      record { operation = record { form = form; writing = writing v.session.map basis.facts.moment ends.session going.moment }; no_start = λ e. cc }
  placing-allowed (Some old) key form going =
      record { operation = record { form = form; writing = writing v.session.map basis.facts.moment ends.session going.moment }; no_start = λ e. cc }

  save-allowed : (key : List ℕ) → IsProperBasis basis → IsAllowed (save_op basis.facts v key)
  save-allowed key going = record { operation = writing v.session.map basis.facts.moment ends.session going.moment; no_start = λ e. cc }

  delete-allowed : (key : List ℕ) → IsAllowed (Delete key)
  delete-allowed key = record { operation = tt; no_start = λ e. cc }

  proper-write : IsFineWrite basis v (λ past. Unit {0}) (Allowed basis) HasOwnStatus
  proper-write = record {
    stays = λ past op reply holds. tt;
    deletes = λ past key going. delete-allowed key;
    places = λ past old number below holds going. placing-allowed old _ (session_key-form basis.draw number going.words going.enough below) going;
    saves = λ past key holds going. save-allowed key going;
    keeps = ends.status;
    stores = λ cookie. ends.status;
    goes = status_400;
    fails = status_503;
  }

pub written-proper : (basis : Basis) (v : Viewed) (past : List Event) → IsProperEnd v → EverySent MayCome (Allowed basis) HasOwnStatus past (written basis v)
written-proper basis v past ends = every-written basis v MayCome (λ past. Unit {0}) (Allowed basis) HasOwnStatus (proper-write basis v ends) past tt
