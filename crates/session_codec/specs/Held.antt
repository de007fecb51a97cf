-- How a session map is kept: as the JSON value of an object. For private clauses.
use Rattle.std.specs.Prelude.{◌≡◌}
use Rattle.serde_json.specs.Data.{Data, null, boolean, number, string, array, object, Members, no_members}
use Rattle.session_codec.specs.SessionMap.{IsSession}

-- the members of an object
abbrev pub members_held : Data → Members
members_held null = no_members
members_held (boolean b) = no_members
members_held (number n) = no_members
members_held (string s) = no_members
members_held (array ds) = no_members
members_held (object ms) = ms

-- the value is an object that a session has
pub record IsHeld (d : Data) : Type 0 where
  pub held : d ≡ object (members_held d)
  pub session : IsSession (members_held d)
