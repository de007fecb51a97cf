-- What is written on a connection that is closed follows from the rest.
use Rattle.std.proofs.Common.{◌≡◌, ℕ, zero, suc, List, [], ◌∷◌, ◌++◌, Option, Some, None, sym, ap, ◌∙◌, subst, inl, inr, nat_lt}
use Rattle.std.specs.Prelude.{◌⊎◌}
use Rattle.http_edge.specs.Laws.{FramingIsOne}
use Rattle.http_edge.specs.RequestFraming.{IsFraming, ended, refused, request}
use Rattle.http_edge.specs.declared.request.EdgeFault.{EdgeFault}
use Rattle.http_edge.specs.declared.request.Request.{Request}
use Rattle.http_edge.specs.declared.response.Response.{Response}
use Rattle.middleware_chain.specs.Page.{fault_page}
use Rattle.middleware_chain.specs.declared.settings.Settings.{Settings}
use Rattle.site_server.specs.Transcript.{Exchange, IsOver, IsSaid, IsTranscript, IsWhole, end_after, response_of, text_of}
use Rattle.site_server.specs.declared.connection.End.{End}
use Rattle.site_server.specs.declared.connection.End.TheVariants.{Closed, ReadFault, WriteFault, Memory}

-- what is due where a closed connection's next bytes are no request
IsDue : List ℕ → List ℕ → Type 0
IsDue bytes written = (IsFraming bytes ended × (written ≡ [])) ⊎ ((fault : EdgeFault) × IsFraming bytes (refused fault) × (written ≡ text_of (fault_page fault)))

whole_last : (text : List ℕ) (ending : Option End) (written : List ℕ) → IsWhole text ending [] written Closed (λ later. ⊥) → written ≡ text
whole_last text None written (later, is, never) = absurd never
whole_last text (Some ending) written (none, is, end) = is

said_last : (answer : Option Response) (written : List ℕ) → IsSaid answer [] written Closed (λ later. ⊥) → written ≡ text_of answer
said_last answer written (inl whole) = whole_last (text_of answer) (end_after answer) written whole
said_last answer written (inr cut) = let no : Closed ≡ WriteFault = cut.end_is in absurd (cc)

none_closes : (written : List ℕ) → IsSaid None [] written Closed (λ later. ⊥) → ⊥
none_closes written (inl (none, is, end)) = let no : Closed ≡ Memory = end in cc
none_closes written (inr cut) = let no : Closed ≡ WriteFault = cut.end_is in cc

due : (bytes written : List ℕ) → IsOver bytes written Closed → IsDue bytes written
unfolding IsDue
due bytes written (inl (framing, empty, end)) = inl (framing, empty)
due bytes written (inr (inl (fault, framing, inl said))) = inr (fault, framing, said_last (fault_page fault) written said)
due bytes written (inr (inl (fault, framing, inr said))) = absurd (none_closes written said)
due bytes written (inr (inr (inl (waits, empty, end)))) = let no : Closed ≡ ReadFault = end in absurd (cc)
due bytes written (inr (inr (inr (inl said)))) = absurd (none_closes written said)
due bytes written (inr (inr (inr (inr (empty, end))))) = let no : Closed ≡ Memory = end in absurd (cc)

same_fault : (one other : EdgeFault) → refused one ≡ refused other → one ≡ other
same_fault one other is = cc

due_once : FramingIsOne → (bytes one other : List ℕ) → IsDue bytes one → IsDue bytes other → one ≡ other
unfolding IsDue
due_once once bytes one other (inl a) (inl b) = a.1 ∙ sym b.1
due_once once bytes one other (inl a) (inr (fault, framing, is)) = let no : ended ≡ refused fault = once bytes ended (refused fault) a.0 framing in absurd (cc)
due_once once bytes one other (inr (fault, framing, is)) (inl b) = let no : ended ≡ refused fault = once bytes ended (refused fault) b.0 framing in absurd (cc)
due_once once bytes one other (inr (fault, framing, is)) (inr (also, framed, too)) =
    is ∙ ap (λ f. text_of (fault_page f)) (same_fault fault also (once bytes (refused fault) (refused also) framing framed)) ∙ sym too

same_rest : (r : Request) (one other : List ℕ) → request r one ≡ request r other → one ≡ other
same_rest r one other is = cc

-- of an answer that was said twice, what follows is the same
said_once : (text : List ℕ) (ending : Option End) (others : List Exchange) (one other : List ℕ) (GoesOn : List ℕ → Type 0)
    → ((a b : List ℕ) → GoesOn a → GoesOn b → a ≡ b)
    → IsWhole text ending others one Closed GoesOn → IsWhole text ending others other Closed GoesOn → one ≡ other
said_once text (Some ending) others one other GoesOn once (none, is, end) (also, too, at) = is ∙ sym too
said_once text None others one other GoesOn once (later, is, goes) (more, too, also) = is ∙ ap (λ l. text ++ l) (once later more goes also) ∙ sym too

answer_once : (answer : Option Response) (others : List Exchange) (one other : List ℕ) (GoesOn : List ℕ → Type 0)
    → ((a b : List ℕ) → GoesOn a → GoesOn b → a ≡ b)
    → IsSaid answer others one Closed GoesOn → IsSaid answer others other Closed GoesOn → one ≡ other
answer_once answer others one other GoesOn once (inl a) (inl b) = said_once (text_of answer) (end_after answer) others one other GoesOn once a b
answer_once answer others one other GoesOn once (inr cut) b = let no : Closed ≡ WriteFault = cut.end_is in absurd (cc)
answer_once answer others one other GoesOn once (inl a) (inr cut) = let no : Closed ≡ WriteFault = cut.end_is in absurd (cc)

pub written_once : FramingIsOne → (settings : Settings) (most : ℕ) (bytes : List ℕ) (exchanges : List Exchange) (one other : List ℕ)
    → IsTranscript settings most bytes exchanges one Closed → IsTranscript settings most bytes exchanges other Closed → one ≡ other
written_once once settings zero bytes exchanges one other (none, is, end) (also, too, at) = is ∙ sym too
written_once once settings (suc left) bytes [] one other is too = due_once once bytes one other (due bytes one is) (due bytes other too)
written_once once settings (suc left) bytes (e ∷ others) one other (rest, framing, outcome, said) (tail, framed, went, also) =
    let same : tail ≡ rest = same_rest e.request tail rest (once bytes (request e.request tail) (request e.request rest) framed framing) in
    let answer : Option Response = response_of (nat_lt 0 left) e in
    let too : IsSaid answer others other Closed (λ later. IsTranscript settings left rest others later Closed) =
    subst (λ t. IsSaid answer others other Closed (λ later. IsTranscript settings left t others later Closed)) same also in
    answer_once answer others one other (λ later. IsTranscript settings left rest others later Closed) (λ a b x y. written_once once settings left rest others a b x y) said too
