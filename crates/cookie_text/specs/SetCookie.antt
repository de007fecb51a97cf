-- The text of a `Set-Cookie` header. The order of the attributes is this project's own.
use Rattle.std.specs.Prelude.{ℕ, ◌+◌, Bool, if◌then◌else◌, List, [], ◌++◌, codes}
use Rattle.std.specs.Fmt.{decimal}
use Rattle.std.specs.declared.option.Option.{Option}
use Rattle.std.specs.declared.option.Option.TheVariants.{None, Some}
use Rattle.cookie_text.specs.FixedDate.{fixed_date}
use Rattle.cookie_text.specs.declared.set_cookie.CookieOut.{CookieOut}

-- when the cookie ends, where it has an age
abbrev pub expires : Option ℕ → ℕ → List ℕ
expires None now = []
expires (Some age) now = codes "; expires=" ++ fixed_date (now + age)

-- after how many seconds it ends
abbrev pub max_age : Option ℕ → List ℕ
max_age None = []
max_age (Some age) = codes "; Max-Age=" ++ decimal age

-- an attribute that stands where it applies
abbrev pub flag : Bool → List ℕ → List ℕ
flag applies attribute = if applies then attribute else []

-- a cookie that is set: an age in seconds, and the moment from which it counts
pub record SentCookie : Type 0 where
  pub name : List ℕ
  pub value : List ℕ
  pub age : Option ℕ
  pub now : ℕ
  pub http_only : Bool
  pub secure : Bool

-- what a call is given
abbrev pub sent_cookie : CookieOut → SentCookie
sent_cookie cookie = record {
  name = cookie.name.now;
  value = cookie.value.now;
  age = cookie.age;
  now = cookie.now;
  http_only = cookie.http_only;
  secure = cookie.secure;
}

-- the text that sets a cookie
unfoldable pub text_of : SentCookie → List ℕ
text_of cookie =
    cookie.name ++ codes "=" ++ cookie.value ++ expires cookie.age cookie.now ++ flag cookie.http_only (codes "; HttpOnly")
    ++ max_age cookie.age ++ codes "; Path=/; SameSite=Lax" ++ flag cookie.secure (codes "; Secure")

-- the text that makes a client forget a cookie: an empty value that ended in 1970
unfoldable pub deletion_text : List ℕ → List ℕ
deletion_text name = name ++ codes "=\"\"; expires=Thu, 01 Jan 1970 00:00:00 GMT; Max-Age=0; Path=/; SameSite=Lax"
