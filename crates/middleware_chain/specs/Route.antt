-- The routes of a site by their paths, and the methods that they take. The paths are this project's own, after those of
-- Django's `django.contrib.auth.urls`.
use Rattle.std.specs.Prelude.{ℕ, ◌==◌, ◌&&◌, ◌||◌, Bool, true, false, bytes_eq, if◌then◌else◌, is_some, List, codes, length, Option, Some, None, option_and_then, option_map}
use Rattle.std.specs.List.{after_first, before_first, list_any}
use Rattle.csrf_tokens.specs.Marks.{before_mark}
use Rattle.http_edge.specs.declared.request.Method.{Method}
use Rattle.http_edge.specs.declared.request.Method.TheVariants.{Get, Head, Post, Other}
use Rattle.middleware_chain.specs.declared.route.Methods.{Methods}
use Rattle.middleware_chain.specs.declared.route.Methods.TheVariants.{Safe, Form, SafeAndForm}
use Rattle.middleware_chain.specs.declared.route.Route.{Route}
use Rattle.middleware_chain.specs.declared.route.Route.TheVariants.{Whoami, Login, Logout, Session, Perms, PasswordChange, PasswordReset, ResetLink, ResetSet}

abbrev pub is_slash : ℕ → Bool
is_slash c = c == 47

-- nothing
abbrev pub is_empty : List ℕ → Bool
is_empty text = length text == 0

-- the routes whose paths don't vary, by their paths without the last slash
unfoldable pub plain_route : List ℕ → Option Route
plain_route name =
    if bytes_eq name (codes "/whoami") then Some Whoami
    else (if bytes_eq name (codes "/login") then Some Login
    else (if bytes_eq name (codes "/logout") then Some Logout
    else (if bytes_eq name (codes "/session") then Some Session
    else (if bytes_eq name (codes "/perms") then Some Perms
    else (if bytes_eq name (codes "/password_change") then Some PasswordChange
    else (if bytes_eq name (codes "/password_reset") then Some PasswordReset
    else None))))))

-- an id and a token, both there, and no slash in the token
abbrev pub proper_parts : List ℕ → List ℕ → Option (List ℕ × List ℕ)
proper_parts uid token = if is_empty uid || (is_empty token || list_any is_slash token) then None else Some (uid, token)

-- what follows `/reset/` is cut at its first slash
abbrev pub parts_after : List ℕ → List ℕ → Option (List ℕ × List ℕ)
parts_after front rest =
    if is_empty front && bytes_eq (before_first is_slash rest) (codes "reset")
    then proper_parts (before_first is_slash (after_first is_slash rest)) (after_first is_slash (after_first is_slash rest))
    else None

-- the parts of a reset link's path without its last slash
unfoldable pub link_parts : List ℕ → Option (List ℕ × List ℕ)
link_parts name = parts_after (before_first is_slash name) (after_first is_slash name)

-- `set-password` stands in the token's place once the token is in the session, as in Django's `PasswordResetConfirmView`
unfoldable pub reset_route : List ℕ × List ℕ → Route
reset_route parts = if bytes_eq parts.1 (codes "set-password") then ResetSet parts.0 else ResetLink parts.0 parts.1

-- the first that is there
abbrev pub or_else : {A : Type 0} → Option A → Option A → Option A
or_else (Some a) other = Some a
or_else None other = other

-- the route of a path without its last slash
unfoldable pub route_named : List ℕ → Option Route
route_named name = or_else (plain_route name) (option_map reset_route (link_parts name))

-- a route's path ends with a slash
unfoldable pub route_of : List ℕ → Option Route
route_of path = option_and_then route_named (before_mark 47 path)

-- the path lacks but its last slash to be a route's
unfoldable pub lacks_slash : List ℕ → Bool
lacks_slash path = is_some (plain_route path) || is_some (link_parts path)

-- the methods that read a page, as Django's `require_safe`
abbrev pub reads : Method → Bool
reads Get = true
reads Head = true
reads Post = false
reads Other = false

-- the method that sends a form
abbrev pub sends : Method → Bool
sends Get = false
sends Head = false
sends Post = true
sends Other = false

-- what each route takes
abbrev pub methods_of : Route → Methods
methods_of Whoami = Safe
methods_of Login = SafeAndForm
methods_of Logout = Form
methods_of Session = SafeAndForm
methods_of Perms = Safe
methods_of PasswordChange = SafeAndForm
methods_of PasswordReset = SafeAndForm
methods_of (ResetLink uid token) = Safe
methods_of (ResetSet uid) = SafeAndForm

-- a method is one of them
abbrev pub takes : Methods → Method → Bool
takes Safe method = reads method
takes Form method = sends method
takes SafeAndForm method = reads method || sends method

-- their list in an `Allow` field (RFC 9110, section 10.2.1)
abbrev pub allow_text : Methods → List ℕ
allow_text Safe = codes "GET, HEAD"
allow_text Form = codes "POST"
allow_text SafeAndForm = codes "GET, HEAD, POST"
