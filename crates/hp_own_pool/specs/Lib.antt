pub mod Parcel
