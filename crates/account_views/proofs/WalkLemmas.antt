-- One step further on a walk through a script.
use Rattle.std.proofs.Common.{◌≡◌, ℕ, zero, suc, ◌+◌, ◌≤◌, Bool, true, false, if◌then◌else◌, List, [], ◌∷◌, ◌++◌, refl, sym, ◌∙◌, subst, arith}
use Rattle.http_edge.specs.declared.response.Response.{Response}
use Rattle.ledger_rows.specs.declared.operation.Op.{Op}
use Rattle.ledger_rows.specs.declared.reply.Reply.{Reply}
use Rattle.account_views.specs.Script.{Steps, Return, Ask, and_then}
use Rattle.account_views.specs.Walk.{AtMost, Event, IsAllowed, IsProper, IsReplyTo, Leads}

-- a walk goes on by the step that is asked for, with any reply
pub Leads-last : {A : Type 0} (events : List Event) (script now : Steps A) (op : Op) (rest : Reply → Steps A) (reply : Reply)
    → Leads script events now → now ≡ Ask op rest → Leads script (events ++ record { op = op; reply = reply } ∷ []) (rest reply)
Leads-last [] script now op rest reply leads e =
    subst (λ s. Leads s (record { op = op; reply = reply } ∷ []) (rest reply)) (sym (sym leads ∙ e)) (refl, refl)
Leads-last (event ∷ events) (Return a) now op rest reply leads e = absurd leads
Leads-last (event ∷ events) (Ask asked go) now op rest reply leads e = (leads.0, Leads-last events (go event.reply) now op rest reply leads.1 e)

pub AtMost-more : {A : Type 0} (m n : ℕ) → m ≤ n → (script : Steps A) → AtMost m script → AtMost n script
AtMost-more m n le (Return a) few = tt
AtMost-more zero n le (Ask op rest) few = absurd few
AtMost-more (suc m) zero le (Ask op rest) few = absurd (omega arith)
AtMost-more (suc m) (suc n) le (Ask op rest) few = λ reply. AtMost-more m n (omega arith) (rest reply) (few reply)

-- two parts ask for no more than both together
pub AtMost-and_then : {A B : Type 0} (m n k : ℕ) → m + n ≤ k → (script : Steps A) → AtMost m script → (next : A → Steps B) → ((a : A) → AtMost n (next a))
    → AtMost k (and_then script next)
AtMost-and_then m n k le (Return a) few next go = AtMost-more n k (omega arith) (next a) (go a)
AtMost-and_then zero n k le (Ask op rest) few next go = absurd few
AtMost-and_then (suc m) n zero le (Ask op rest) few next go = absurd (omega arith)
AtMost-and_then (suc m) n (suc k) le (Ask op rest) few next go = λ reply. AtMost-and_then m n k (omega arith) (rest reply) (few reply) next go

-- what holds both ways of a question
pub either : {A : Type 0} (P : A → Type 0) (b : Bool) (one other : A) → P one → P other → P (if b then one else other)
either P true one other first second = first
either P false one other first second = second

-- the same, where what was asked for is known
pub either_where : {A : Type 0} (P : A → Type 0) (b : Bool) (one other : A) → (b ≡ true → P one) → P other → P (if b then one else other)
either_where P true one other first second = first refl
either_where P false one other first second = second

-- after a step there is one fewer
pub AtMost-rest : {A : Type 0} (m n : ℕ) → m ≤ n + 1 → (op : Op) (rest : Reply → Steps A) (reply : Reply) → AtMost m (Ask op rest) → AtMost n (rest reply)
AtMost-rest zero n le op rest reply few = absurd few
AtMost-rest (suc m) n le op rest reply few = AtMost-more m n (omega arith) (rest reply) (few reply)

-- where a step is asked for, one is left
pub AtMost-some : {A : Type 0} (m : ℕ) (op : Op) (rest : Reply → Steps A) → AtMost m (Ask op rest) → 1 ≤ m
AtMost-some zero op rest few = absurd few
AtMost-some (suc m) op rest few = omega arith

-- a step that a proper script asks for is allowed, and what is left after a reply that may come is proper
pub IsProper-step : (now : Steps Response) (op : Op) (rest : Reply → Steps Response) → IsProper now → now ≡ Ask op rest → IsAllowed op
IsProper-step now op rest proper e = (subst IsProper e proper).0

pub IsProper-rest : (now : Steps Response) (op : Op) (rest : Reply → Steps Response) (reply : Reply) → IsProper now → now ≡ Ask op rest → IsReplyTo op reply → IsProper (rest reply)
IsProper-rest now op rest reply proper e kind = (subst IsProper e proper).1 reply kind
