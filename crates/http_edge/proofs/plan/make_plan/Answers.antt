use Rattle.std.proofs.Common.{◌≡◌, ◌∙◌, ap, ℕ, List, [], ◌+◌, length, None}
use Rattle.httparse.specs.Grammar.{RequestHead, print_request}
use Rattle.http_edge.specs.RequestFraming.{length_of}
use Rattle.http_edge.specs.HeadFault.{fault_of, body_length, stated_length}
use Rattle.http_edge.specs.HeaderFields.{fields_of, request_by}
use Rattle.http_edge.specs.declared.request.Request.{Request}
use Rattle.http_edge.proofs.plan.make_plan.Goals as goal

sound : (a b : List ℕ) (fs gs : List (List ℕ × List ℕ)) → a ≡ b → fs ≡ gs → fault_of a fs ≡ None → fault_of b gs ≡ None
sound a b fs gs same also is = cc

total : (len n : ℕ) (h : RequestHead) (fs : List (List ℕ × List ℕ)) → len ≡ length (print_request h) → fs ≡ fields_of h
    → n ≡ body_length (stated_length fs) → len + n ≡ length (print_request h) + length_of h
unfolding length_of
total len n h fs at same is =
    let body : n ≡ body_length (stated_length (fields_of h)) = is ∙ ap (λ gs. body_length (stated_length gs)) same in
    cc

same : (m n t u : List ℕ) (v w : ℕ) (fs gs : List (List ℕ × List ℕ)) (r : Request) → m ≡ n → t ≡ u → v ≡ w → fs ≡ gs
    → r ≡ request_by m t v fs [] → r ≡ request_by n u w gs []
same m n t u v w fs gs r method target minor fields is = cc

pub returns : goal.returns
returns c =
    let h = c.requires.found.0 in
    let at = c.requires.found.1 in (
      h,
      record {
        head = (_, at.reads);
        sound = sound _ _ _ _ at.method at.fields c.in_ok-length.ensures.fault;
        len = at.len;
        total = total _ _ h _ at.len at.fields c.in_ok-length.ensures.length.0;
        request = same _ _ _ _ _ _ _ _ _ (c.of.ensures ∙ at.method) (c.of-2.ensures ∙ at.path) at.version at.fields c.in_ok-request.ensures;
      },
    )
