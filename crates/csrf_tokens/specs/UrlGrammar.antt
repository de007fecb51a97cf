-- URLs as RFC 3986, section 3, writes them, as far as their scheme and network location. A law says that `url_parts`
-- reads exactly these.
use Rattle.std.specs.Prelude.{◌≡◌, ℕ, ◌<◌, not, true, List, [], ◌∷◌, ◌++◌, codes, length}
use Rattle.std.specs.List.{list_all}
use Rattle.csrf_tokens.specs.Urls.{Url, is_delimiter, is_scheme}

-- nothing, or a text that begins with `/`, `?` or `#`
abbrev pub IsTail : List ℕ → Type 0
IsTail [] = Unit {0}
IsTail (c ∷ rest) = is_delimiter c ≡ true

-- the text is the scheme, `://`, the network location, which has none of these three, and a tail
pub record IsUrl (text : List ℕ) (url : Url) : Type 0 where
  pub tail : List ℕ
  pub whole : text ≡ url.scheme ++ (codes "://" ++ (url.netloc ++ tail))
  pub named : is_scheme url.scheme ≡ true
  pub some : 0 < length url.netloc
  pub inside : list_all (λ c. not (is_delimiter c)) url.netloc ≡ true
  pub ends : IsTail tail
